-- Spans, each as one number.
use Rattle.std.specs.Prelude.{◌/◌, ◌%◌}
use Rattle.rust_map.specs.Spans.{Span, span_from}
use Rattle.rust_map.specs.declared.packed.PackedSpan.{PackedSpan}

-- a position has 32 bits: the end is how often the number has 2 to the 32, and the start is what is left
abbrev pub unpacked : PackedSpan → Span
unpacked packed = span_from (packed.both % 4294967296) (packed.both / 4294967296)
