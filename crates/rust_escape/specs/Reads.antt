-- What a reading at a place of an inside says.
use Rattle.std.specs.Prelude.{◌≡◌, ℕ, ◌<◌, ◌≤◌, ◌++◌, Bool, ◌==◌, List, true, Option, Some, None, MatchResult}
use Rattle.std.specs.Prelude.{MatchOption}
use Rattle.rust_escape.specs.Chars.{begins}
use Rattle.rust_escape.specs.Error.{is_fatal}
use Rattle.rust_escape.specs.Mode.{Mode}
use Rattle.rust_escape.specs.Places.{rest_at, between_places, IsPlace}
use Rattle.rust_escape.specs.Unit.{Rule, Lexical, IsUnit, NoUnit, IsInside}
use Rattle.rust_escape.specs.Value.{Value}
use Rattle.rust_escape.specs.declared.read.Reading.{Reading}

-- the characters between two places are a unit
pub record IsUnitAt (rule : Rule) (mode : Mode) (bytes : List ℕ) (start at : ℕ) (value : Option Value) : Type 0 where
  pub joined : rest_at bytes start ≡ between_places bytes start at ++ rest_at bytes at
  pub is : IsUnit rule mode (between_places bytes start at) (rest_at bytes at) value

-- a unit stands at the place, up to the reading's end, and has its value; or none stands there
pub record ReadsUnit (rule : Rule) (mode : Mode) (bytes : List ℕ) (start : ℕ) (reading : Reading) : Type 0 where
  pub found : MatchResult reading.value (IsUnitAt rule mode bytes start reading.«end»)
      (λ e. NoUnit rule mode (rest_at bytes start) × (is_fatal e ≡ true))
  pub place : IsPlace bytes reading.«end»
  pub on : start < reading.«end»

-- the quote "
abbrev pub is_quote : ℕ → Bool
is_quote c = c == 34

-- to the lexer the text begins with an inside, and then the rest begins with the closing quote
pub record Closes (mode : Mode) (text rest : List ℕ) : Type 0 where
  pub inside : List ℕ
  pub values : List Value
  pub joined : text ≡ inside ++ rest
  pub is : IsInside Lexical mode inside rest values
  pub quote : begins is_quote rest ≡ true

-- the place is that of the closing quote, or there is none
abbrev pub IsClosedAt : Mode → List ℕ → ℕ → Option ℕ → Type 0
IsClosedAt mode bytes start result = MatchOption result ((rest : List ℕ) → Closes mode (rest_at bytes start) rest → ⊥)
    (λ at. Closes mode (rest_at bytes start) (rest_at bytes at) × IsPlace bytes at × (start ≤ at))

-- the place where the rest begins that is sought, or there is none
abbrev pub IsPast : List ℕ → ℕ → Option ℕ → Option (List ℕ) → Type 0
IsPast bytes start result sought =
    MatchOption result (sought ≡ None) (λ at. (sought ≡ Some (rest_at bytes at)) × IsPlace bytes at × (start ≤ at))
