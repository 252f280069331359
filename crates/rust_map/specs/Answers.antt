-- What a map answers of a span that it holds.
use Rattle.std.specs.Prelude.{ℕ, Bool, true, false, ◌+◌, ◌==◌, if◌then◌else◌, List, ◌++◌, Option, Some, None}
use Rattle.std.specs.Prelude.{option_map, codes}
use Rattle.std.specs.Fmt.{decimal}
use Rattle.std.specs.Option.{option_map_or}
use Rattle.rust_map.specs.declared.place.LineColumn.{LineColumn}
use Rattle.rust_map.specs.Places.{place_of}
use Rattle.rust_map.specs.Bytes.{byte_count, between_counts}
use Rattle.rust_map.specs.Spans.{Span, span_over}
use Rattle.rust_map.specs.Sources.{Sources, Spot, spot}

-- the place of the call site
abbrev pub no_place : LineColumn
no_place = record { line = 1; column = 0 }

-- the place at which a span starts, and at which it ends
abbrev pub start_place : Sources → Span → LineColumn
start_place map span = option_map_or (λ s. place_of s.text s.from) (spot map span) no_place

abbrev pub end_place : Sources → Span → LineColumn
end_place map span = option_map_or (λ s. place_of s.text s.to) (spot map span) no_place

-- the byte of the whole text at which a span starts, and behind which it ends
abbrev pub start_byte : Sources → Span → ℕ
start_byte map span = option_map_or (λ s. byte_count s.text s.from) (spot map span) 0

abbrev pub end_byte : Sources → Span → ℕ
end_byte map span = option_map_or (λ s. byte_count s.text s.to) (spot map span) 0

-- the characters that a span covers
abbrev pub source_of : Sources → Span → Option (List ℕ)
source_of map span = option_map (λ s. between_counts s.text s.from s.to) (spot map span)

-- <parsed string N>
abbrev pub parsed_name : ℕ → List ℕ
parsed_name n = codes "<parsed string " ++ (decimal n ++ codes ">")

-- the name of the file of a span: texts count from 1
abbrev pub file_name : Sources → Span → List ℕ
file_name map span = option_map_or (λ s. parsed_name (s.number + 1)) (spot map span) (codes "<unspecified>")

-- both lie in no text, or in the same
abbrev pub is_same_file : Option Spot → Option Spot → Bool
is_same_file (Some s) (Some t) = s.number == t.number
is_same_file None None = true
is_same_file _ _ = false

-- the least span over two, none across files
abbrev pub join_of : Sources → Span → Span → Option Span
join_of map a b = if is_same_file (spot map a) (spot map b) then Some (span_over a b) else None
