-- The texts of a source map, and where spans lie in them.
use Rattle.std.specs.Prelude.{◌≡◌, ◌==◌, IsTrue, ℕ, Bool, ◌+◌, ◌-◌, ◌&&◌, ◌||◌, nat_le, if◌then◌else◌, List, []}
use Rattle.std.specs.Prelude.{◌∷◌, ◌++◌, length, Option, Some, None, is_some}
use Rattle.rust_map.specs.Spans.{Span, is_call_site, span_from}

-- what a map is: the position at which its first text begins, and its texts in order, as lists of characters
pub record Sources : Type 0 where
  pub start : ℕ
  pub texts : List (List ℕ)

-- a text takes a position for each of its characters and one for its end; this is the next
abbrev pub position_behind : ℕ → List ℕ → ℕ
position_behind position text = position + length text + 1

-- the position behind texts that lie one after another from a position on
abbrev pub position_behind_all : ℕ → List (List ℕ) → ℕ
position_behind_all position [] = position
position_behind_all position (text ∷ texts) = position_behind_all (position_behind position text) texts

-- where the next text of a map will begin
abbrev pub next_position : Sources → ℕ
next_position map = position_behind_all map.start map.texts

-- a map without texts
abbrev pub empty_from : ℕ → Sources
empty_from start = record { start = start; texts = [] }

-- the map with one more text, at its end
abbrev pub with_text : Sources → List ℕ → Sources
with_text map text = record { start = map.start; texts = map.texts ++ text ∷ [] }

-- the span of all of the next text
abbrev pub next_span : Sources → List ℕ → Span
next_span map text = span_from (next_position map) (next_position map + length text)

-- where a span lies: the text's number, from 0, the text, and two counts of its characters
pub record Spot : Type 0 where
  pub number : ℕ
  pub text : List ℕ
  pub from : ℕ
  pub to : ℕ

-- a span lies in a text that begins at a position if it ends no earlier than it starts, and both there
abbrev pub lies_in : ℕ → List ℕ → Span → Bool
lies_in position text span = nat_le position span.start
    && (nat_le span.start span.end && nat_le span.end (position + length text))

-- the counts of characters between which a span lies in a text that begins at a position, if it does
abbrev pub counts_in : ℕ → List ℕ → Span → Option (ℕ × ℕ)
counts_in position text span =
    if lies_in position text span then Some (span.start - position, span.end - position) else None

-- where a span lies in texts from a position and a number on: in the first text that it lies in
abbrev pub spot_from : ℕ → ℕ → List (List ℕ) → Span → Option Spot
spot_from number position [] span = None
spot_from number position (text ∷ texts) span =
    if lies_in position text span
    then Some (record { number = number; text = text; from = span.start - position; to = span.end - position })
    else spot_from (number + 1) (position_behind position text) texts span

-- where a span lies in a map; the position 0 is no text's
abbrev pub spot : Sources → Span → Option Spot
spot map span = if span.start == 0 then None else spot_from 0 map.start map.texts span

-- a map holds the call site, and the spans that lie in one of its texts
abbrev pub is_held : Sources → Span → Bool
is_held map span = is_call_site span || is_some (spot map span)

-- the spot of all of the next text
abbrev pub next_spot : Sources → List ℕ → Spot
next_spot map text = record { number = length map.texts; text = text; from = 0; to = length text }

-- each span that the old map holds lies where it lay
abbrev pub KeepsSpots : Sources → Sources → Type 0
KeepsSpots old new = (span : Span) → IsTrue (is_held old span) → spot new span ≡ spot old span

-- the spot of a part of a span, between two counts from its start
abbrev pub spot_part : Spot → ℕ → ℕ → Spot
spot_part s from to = record { number = s.number; text = s.text; from = s.from + from; to = s.from + to }

-- in each map the part lies in the text of the span, so many characters on
abbrev pub LiesAsPart : Span → ℕ → ℕ → Span → Type 0
LiesAsPart span from to part = (map : Sources) (s : Spot) → spot map span ≡ Some s → spot map part
    ≡ Some (spot_part s from to)
