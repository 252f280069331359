-- What is read from a place in the bytes of a text on.
use Rattle.std.specs.Prelude.{◌≡◌, ℕ, ◌≤◌, List, true, Option, Result, MatchResult}
pub use Rattle.text_chars.specs.Places.{rest_at, IsPlace, IsBehind, IsNext, byte_length, between_places}
use Rattle.rust_escape.specs.Error.{is_fatal}
use Rattle.rust_escape.specs.Scan.{Scanned, Malformed, Reads}
use Rattle.rust_escape.specs.Value.{Value}
use Rattle.rust_escape.specs.declared.error.EscapeError.{EscapeError}
use Rattle.rust_escape.specs.declared.read.Reading.{Reading}

-- what is read before the rest is what was sought
abbrev pub IsRead : Result (Option Value) EscapeError → List ℕ → Scanned → Type 0
IsRead value rest sought =
    MatchResult value (λ v. sought ≡ Reads v rest) (λ e. (sought ≡ Malformed) × (is_fatal e ≡ true))

-- what is read from a place on is what was sought
pub record IsScanned (bytes : List ℕ) (start : ℕ) (reading : Reading) (sought : Scanned) : Type 0 where
  pub same : IsRead reading.value (rest_at bytes reading.«end») sought
  pub place : IsPlace bytes reading.«end»
  pub on : start ≤ reading.«end»
