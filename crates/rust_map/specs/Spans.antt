-- Spans: pairs of positions.
use Rattle.std.specs.Prelude.{ℕ, Bool, ◌+◌, ◌-◌, ◌==◌, ◌&&◌, nat_le, nat_lt, if◌then◌else◌, min, max, Option, Some}
use Rattle.std.specs.Prelude.{None}
pub use Rattle.rust_map.specs.declared.span.Span.{Span}

-- from one position to another
abbrev pub span_from : ℕ → ℕ → Span
span_from start end = record { start = start; end = end }

-- the span of what no text has: no text takes the position 0
abbrev pub call_site : Span
call_site = span_from 0 0

abbrev pub is_call_site : Span → Bool
is_call_site span = span.start == 0 && span.end == 0

-- so many positions lie between its two
abbrev pub span_length : Span → ℕ
span_length span = span.end - span.start

-- the part of a span between two counts from its start
abbrev pub span_part : Span → ℕ → ℕ → Span
span_part span from to = span_from (span.start + from) (span.start + to)

-- the same, and none where the first count is past the second, or this one past the span's end
abbrev pub part_within : Span → ℕ → ℕ → Option Span
part_within span from to = if nat_le from to
    && nat_le (span.start + to) span.end then Some (span_part span from to) else None

-- the first character of a span, and the last, or the span itself where it is empty
abbrev pub first_of : Span → Span
first_of span = if nat_lt span.start span.end then span_from span.start (span.start + 1) else span

abbrev pub last_of : Span → Span
last_of span = if nat_lt span.start span.end then span_from (span.end - 1) span.end else span

-- the least span that covers both
abbrev pub span_over : Span → Span → Span
span_over a b = span_from (min a.start b.start) (max a.end b.end)
