-- What the escape calls tell their callbacks of an inside.
use Rattle.std.specs.Prelude.{◌≡◌, ℕ, ◌+◌, ◌<◌, true, nat_lt, List, [], ◌∷◌, ◌++◌, length, if◌then◌else◌, Some}
use Rattle.std.specs.Prelude.{None, Result, Ok, Err, count_by, map}
use Rattle.std.specs.List.{FoldsTo}
use Rattle.std.specs.declared.ops.Range.{Range}
use Rattle.rust_escape.specs.Chars.{is_line_feed, is_white}
use Rattle.rust_escape.specs.Error.{is_fatal}
use Rattle.rust_escape.specs.Mode.{Mode}
use Rattle.rust_escape.specs.Places.{byte_length}
use Rattle.rust_escape.specs.Unit.{Strict, IsUnit, NoUnit, IsOnlyUnit}
use Rattle.rust_escape.specs.Value.{Value}
use Rattle.rust_escape.specs.Wrong.{past_wrong}
use Rattle.rust_escape.specs.declared.error.EscapeError.{EscapeError}
use Rattle.rust_escape.specs.declared.error.EscapeError.TheVariants.{UnskippedWhitespaceWarning}
use Rattle.rust_escape.specs.declared.error.EscapeError.TheVariants.{MultipleSkippedLinesWarning}

-- one call of a callback: a range of the inside's bytes, and a unit or what is wrong
pub record Report (T : Type 0) : Type 0 where
  pub range : Range ℕ
  pub result : Result T EscapeError

-- what is said of the bytes between two places
abbrev pub report : {T : Type 0} → ℕ → ℕ → Result T EscapeError → Report T
report from to said = record { range = record { start = from; «end» = to }; result = said }

-- what is wrong with a range of the inside's bytes, or a warning about it
pub record Fault : Type 0 where
  pub range : Range ℕ
  pub error : EscapeError

-- the same, of the bytes between two places
abbrev pub fault : ℕ → ℕ → EscapeError → Fault
fault from to error = record { range = record { start = from; «end» = to }; error = error }

-- a skip between two places whose characters are more than one line feed
abbrev pub lines_warning : ℕ → ℕ → List ℕ → List Fault
lines_warning from to cs =
    if nat_lt 1 (count_by is_line_feed cs) then fault from to MultipleSkippedLinesWarning ∷ [] else []

-- white space before the rest, behind a skip between two places
abbrev pub white_warning : ℕ → ℕ → List ℕ → List Fault
white_warning from to [] = []
white_warning from to (c ∷ cs) =
    if is_white c then fault from (to + byte_length (c ∷ [])) UnskippedWhitespaceWarning ∷ [] else []

-- the warnings of a skip between two places, its characters and the rest
abbrev pub warnings : ℕ → ℕ → List ℕ → List ℕ → List Fault
warnings from to cs rest = lines_warning from to cs ++ white_warning from to rest

-- a fault as a call
abbrev pub failed : {T : Type 0} → Fault → Report T
failed f = record { range = f.range; result = Err f.error }

-- the calls that are made of a text that begins at a place of the inside, in order: one for each value,
-- up to two warnings for each skip, one for each malformed unit, as far as it reaches; behind it they go on
pub data AreReports {T : Type 0} (value : T → Value) (mode : Mode) : ℕ → List ℕ → List (Report T) → Type 0 where
  none : {at : ℕ} → AreReports value mode at [] []
  spelled : {at : ℕ} {cs rest : List ℕ} {unit : T} {calls : List (Report T)}
      → IsUnit Strict mode cs rest (Some (value unit)) → AreReports value mode (at + byte_length cs) rest calls
      → AreReports value mode at (cs ++ rest) (report at (at + byte_length cs) (Ok unit) ∷ calls)
  skipped : {at : ℕ} {cs rest : List ℕ} {calls : List (Report T)}
      → IsUnit Strict mode cs rest None → AreReports value mode (at + byte_length cs) rest calls
      → AreReports value mode at (cs ++ rest) (map failed (warnings at (at + byte_length cs) cs rest) ++ calls)
  malformed : {at : ℕ} (cs : List ℕ) {rest : List ℕ} {error : EscapeError} {calls : List (Report T)}
      → 0 < length cs → NoUnit Strict mode (cs ++ rest) → rest ≡ past_wrong mode (cs ++ rest) → is_fatal error ≡ true
      → AreReports value mode (at + byte_length cs) rest calls
      → AreReports value mode at (cs ++ rest) (report at (at + byte_length cs) (Err error) ∷ calls)

-- the callback was called so, by steps, from its first state on
pub record Reports {F T : Type 0} (step : F → Range ℕ → Result T EscapeError → F → Type 0) (value : T → Value)
    (mode : Mode) (at : ℕ) (text : List ℕ) (first : F) : Type 0 where
  pub calls : List (Report T)
  pub are : AreReports value mode at text calls
  pub last : F
  pub made : FoldsTo (λ f call g. step f call.range call.result g) first calls last

-- a callback that hears of faults alone: a unit leaves it as it is
abbrev pub on_faults : {F T : Type 0} → (F → Range ℕ → EscapeError → F → Type 0) → F → Range ℕ → Result T EscapeError
    → F → Type 0
on_faults step f range (Ok unit) g = f ≡ g
on_faults step f range (Err error) g = step f range error g

-- such a callback hears nothing of an inside that is one unit, and else once what is wrong
pub data ChecksOne {F : Type 0} (step : F → Range ℕ → EscapeError → F → Type 0) (mode : Mode) (text : List ℕ)
    (first : F) : F → Type 0 where
  whole : {value : Value} → IsOnlyUnit mode text value → ChecksOne step mode text first first
  wrong : {to : ℕ} {error : EscapeError} {last : F} → ((value : Value) → IsOnlyUnit mode text value → ⊥)
      → is_fatal error ≡ true → step first (record { start = 0; «end» = to }) error last
      → ChecksOne step mode text first last

-- the values of all units of the literal
abbrev pub TakesUnits : (Value → Type 0) → Mode → Type 0
TakesUnits takes mode = (cs rest : List ℕ) (v : Value) → IsUnit Strict mode cs rest (Some v) → takes v
