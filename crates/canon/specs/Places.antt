-- The place of a syntax fault: where the first message's part of the text starts, if a token begins there.
use Rattle.std.specs.Prelude.{◌≡◌, ℕ, Bool, ◌&&◌, List, Option, Some, None, if◌then◌else◌}
use Rattle.std.specs.List.{list_any}
use Rattle.rust_map.specs.Answers.{start_place}
use Rattle.rust_map.specs.declared.place.LineColumn.{LineColumn}
use Rattle.rust_map.specs.Sources.{Sources, is_held}
use Rattle.rust_map.specs.Spans.{first_of}
use Rattle.rust_map.specs.declared.span.Span.{Span}
use Rattle.proc_macro2.specs.Token.{Spanned}
use Rattle.proc_macro2.specs.Pieces.{edged}
use Rattle.proc_macro2.specs.FileForest.{IsFileForest}
use Rattle.syn_error.specs.Notes.{place_of}
use Rattle.syn_buffer.specs.Entries.{same_span}
use Rattle.canon.specs.declared.fault.Fault.{Fault}
use Rattle.canon.specs.declared.fault.Fault.TheVariants.{NotUtf8, Lexical, Syntax, NotFirst, MapFull, Memory}
use Rattle.canon.specs.declared.fault.Fault.TheVariants.{Reading, Writing}

-- the token begins with that character
abbrev pub begins_with : Span → Spanned → Bool
begins_with first s = same_span (first_of (edged s).span) first

-- where the map has the span's first character, if one of the tokens begins with it
abbrev pub span_place : Sources → Span → List Spanned → Option LineColumn
span_place map span tokens =
    if is_held map (first_of span) && list_any (begins_with (first_of span)) tokens
    then Some (start_place map (first_of span))
    else None

-- a syntax fault of a text of the map, whose characters stand at the positions from base on, has the place of
-- its error
abbrev pub IsPlaced : ℕ → List ℕ → Sources → Fault → Type 0
IsPlaced base text map (Syntax error place) =
    (shebang : Option (List ℕ)) × (tokens : List Spanned) × IsFileForest base text shebang tokens
    × (place ≡ span_place map (place_of error) tokens)
IsPlaced base text map (Lexical place) = Unit {0}
IsPlaced base text map (NotFirst index) = Unit {0}
IsPlaced base text map MapFull = Unit {0}
IsPlaced base text map Memory = Unit {0}
IsPlaced base text map NotUtf8 = Unit {0}
IsPlaced base text map Reading = Unit {0}
IsPlaced base text map Writing = Unit {0}
