-- What was scanned was read.
use Rattle.std.proofs.Common.{◌≡◌, ℕ, ◌<◌, List, ◌++◌}
use Rattle.std.specs.Prelude.{true, Option, Result, Ok, Err, MatchResult}
use Rattle.rust_escape.specs.Error.{is_fatal}
use Rattle.rust_escape.specs.LexicalScan.{lexical_scan}
use Rattle.rust_escape.specs.Mode.{Mode}
use Rattle.rust_escape.specs.Places.{rest_at, IsPlace, IsRead, IsScanned}
use Rattle.rust_escape.specs.Reads.{IsUnitAt, ReadsUnit}
use Rattle.rust_escape.specs.Scan.{scan}
use Rattle.rust_escape.specs.Unit.{Rule, Strict, Lexical, IsUnit, NoUnit}
use Rattle.rust_escape.specs.Value.{Value}
use Rattle.rust_escape.specs.declared.error.EscapeError.{EscapeError}
use Rattle.rust_escape.specs.declared.read.Reading.{Reading}
use Rattle.rust_escape.proofs.Complete.{none_read}
use Rattle.rust_escape.proofs.LexicalUnits.{lexical_found, none_lexical}
use Rattle.rust_escape.proofs.Ranges.{between_is}
use Rattle.rust_escape.proofs.Sound.{unit_found}

unit_at : (rule : Rule) (mode : Mode) (bytes cs : List ℕ) (start at : ℕ) (v : Option Value) → IsPlace bytes start
    → IsPlace bytes at → rest_at bytes start ≡ cs ++ rest_at bytes at
    → IsUnit rule mode cs (rest_at bytes at) v → IsUnitAt rule mode bytes start at v
unit_at rule mode bytes cs start at v p q j h =
    let same = between_is bytes cs start at p q j in
    record { joined = rw same j; is = rw same h }

strict_found : (mode : Mode) (bytes : List ℕ) (start at : ℕ) (value : Result (Option Value) EscapeError)
    → IsPlace bytes start → IsPlace bytes at → IsRead value (rest_at bytes at) (scan mode (rest_at bytes start))
    → MatchResult value (IsUnitAt Strict mode bytes start at)
    (λ e. NoUnit Strict mode (rest_at bytes start) × (is_fatal e ≡ true))
strict_found mode bytes start at (Ok v) p q s = let u =
    unit_found mode (rest_at bytes start) (rest_at bytes at) v s in unit_at Strict mode bytes u.chars start at v p q
    u.joined u.is
strict_found mode bytes start at (Err e) p q s = (none_read mode (rest_at bytes start) s.0, s.1)

lexical_there : (mode : Mode) (bytes : List ℕ) (start at : ℕ) (value : Result (Option Value) EscapeError)
    → IsPlace bytes start → IsPlace bytes at → IsRead value (rest_at bytes at) (lexical_scan mode (rest_at bytes start))
    → MatchResult value (IsUnitAt Lexical mode bytes start at)
    (λ e. NoUnit Lexical mode (rest_at bytes start) × (is_fatal e ≡ true))
lexical_there mode bytes start at (Ok v) p q s = let u =
    lexical_found mode (rest_at bytes start) (rest_at bytes at) v s in unit_at Lexical mode bytes u.chars start at v p q
    u.joined u.is
lexical_there mode bytes start at (Err e) p q s = (none_lexical mode (rest_at bytes start) s.0, s.1)

pub reads_unit : (mode : Mode) (bytes : List ℕ) (start : ℕ) (reading : Reading) → IsPlace bytes start
    → start < reading.«end» → IsScanned bytes start reading (scan mode (rest_at bytes start))
    → ReadsUnit Strict mode bytes start reading
reads_unit mode bytes start reading p l s =
    record {
      found = strict_found mode bytes start reading.«end» reading.value p s.place s.same;
      place = s.place;
      on = l;
    }

pub reads_lexical : (mode : Mode) (bytes : List ℕ) (start : ℕ) (reading : Reading) → IsPlace bytes start
    → start < reading.«end» → IsScanned bytes start reading (lexical_scan mode (rest_at bytes start))
    → ReadsUnit Lexical mode bytes start reading
reads_lexical mode bytes start reading p l s =
    record {
      found = lexical_there mode bytes start reading.«end» reading.value p s.place s.same;
      place = s.place;
      on = l;
    }
