-- Places in the bytes of a text, and the characters from a place on.
use Rattle.std.specs.Prelude.{◌≡◌, ℕ, ◌-◌, ◌<◌, ◌≤◌, List, [], ◌∷◌, length, drop, take, encode_utf8_all}
use Rattle.std.specs.Prelude.{Bool, true, ◌++◌, Option, MatchOption}
use Rattle.std.specs.List.{list_all}
use Rattle.std.specs.Str.{chars, IsUtf8}

-- the characters from a place on
abbrev pub rest_at : List ℕ → ℕ → List ℕ
rest_at bytes at = chars (drop at bytes)

-- a character begins there, or the text ends
pub record IsPlace (bytes : List ℕ) (at : ℕ) : Type 0 where
  pub within : at ≤ length bytes
  pub cut : IsUtf8 (drop at bytes)

-- behind a place
pub record IsBehind (bytes : List ℕ) (start at : ℕ) : Type 0 where
  pub place : IsPlace bytes at
  pub on : start < at

-- the number of bytes that characters take
abbrev pub byte_length : List ℕ → ℕ
byte_length cs = length (encode_utf8_all cs)

-- the characters between two places
abbrev pub between_places : List ℕ → ℕ → ℕ → List ℕ
between_places bytes start end = chars (take (end - start) (drop start bytes))

-- the character at a place and the place behind it, or the text ends there
abbrev pub IsNext : List ℕ → ℕ → Option (ℕ × ℕ) → Type 0
IsNext bytes at result = MatchOption result (rest_at bytes at ≡ [])
    (λ p. (rest_at bytes at ≡ p.0 ∷ rest_at bytes p.1) × IsBehind bytes at p.1)

-- at a place or behind it
pub record IsFrom (bytes : List ℕ) (start at : ℕ) : Type 0 where
  pub place : IsPlace bytes at
  pub on : start ≤ at

-- all characters between two places pass
pub record IsPassed (p : ℕ → Bool) (bytes : List ℕ) (start at : ℕ) : Type 0 where
  pub passed : List ℕ
  pub joined : rest_at bytes start ≡ passed ++ rest_at bytes at
  pub pass : list_all p passed ≡ true
  pub place : IsPlace bytes at
  pub on : start ≤ at
