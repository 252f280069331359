-- What it is for a name to stand in a text at a line and a column.
use Rattle.std.specs.Prelude.{◌≡◌, ℕ, List, [], ◌∷◌, ◌++◌, length, Some}
use Rattle.rust_map.specs.declared.place.LineColumn.{LineColumn}
use Rattle.rust_map.specs.Places.{place_of}
use Rattle.proc_macro2.specs.Token.{Spanned}
use Rattle.syn_grammar.specs.Names.{Name}
use Rattle.laws_programs.specs.Faults.{token_place}

-- The text is some characters, then those of the name, and then others; and the place is the one behind the characters
-- in front.
pub record StandsAt (text name : List ℕ) (place : LineColumn) : Type 0 where
  pub front : List ℕ
  pub rest : List ℕ
  pub split : text ≡ front ++ (name ++ rest)
  pub there : place ≡ place_of text (length front)

-- A name stands in the text at the place where the token of its index begins.
pub record NameStands (text : List ℕ) (tokens : List Spanned) (name : Name) : Type 0 where
  pub place : LineColumn
  pub begins : token_place text tokens (Some name.index) ≡ Some place
  pub stands : StandsAt text name.text place

-- Each of the names does.
abbrev pub AllStandIn : List ℕ → List Spanned → List Name → Type 0
AllStandIn text tokens [] = Unit {0}
AllStandIn text tokens (name ∷ names) = NameStands text tokens name × AllStandIn text tokens names
