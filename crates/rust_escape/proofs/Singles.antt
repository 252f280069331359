-- An inside that should be one unit.
use Rattle.std.proofs.Common.{◌≡◌, ℕ, ◌≤◌, ◌<◌, arith, List, [], ◌++◌, refl, sym, ap, ◌∙◌, length, append-nil, ⊎_elim}
use Rattle.std.specs.Prelude.{true, false, Option, Some, None, Result, Ok, Err, IfOk, IfErr}
use Rattle.std.proofs.lemmas.Bool.{cases_lt, false≢true}
use Rattle.std.specs.Str.{chars}
use Rattle.rust_escape.specs.Mode.{Mode, in_double_quotes}
use Rattle.rust_escape.specs.Places.{rest_at, IsScanned, byte_length}
use Rattle.rust_escape.specs.Scan.{Malformed, Reads, scan}
use Rattle.rust_escape.specs.Unit.{Rule, Strict, IsUnit, plain, escape, skip, return, NoUnit, IsOnlyUnit}
use Rattle.rust_escape.specs.Value.{Value}
use Rattle.rust_escape.specs.declared.error.EscapeError.{EscapeError}
use Rattle.rust_escape.specs.declared.error.EscapeError.TheVariants.{MoreThanOneChar}
use Rattle.rust_escape.specs.declared.read.Reading.{Reading}
use Rattle.rust_escape.proofs.Complete.{none_read, unit_read}
use Rattle.rust_escape.proofs.PlacesLemmas.{rest_end}
use Rattle.rust_escape.proofs.Ranges.{byte_length-rest}
use Rattle.rust_escape.proofs.Sound.{unit_found}

-- of an inside that should be one unit the answer is right
pub record IsSingle (mode : Mode) (text : List ℕ) (r : Result Value EscapeError) : Type 0 where
  pub value : IfOk r (IsOnlyUnit mode text)
  pub malformed : IfErr r (λ e. (v : Value) → IsOnlyUnit mode text v → ⊥)
  pub more : (cs rest : List ℕ) (v : Value) → text ≡ cs ++ rest → IsUnit Strict mode cs rest (Some v) → 0 < length rest
      → r ≡ Err MoreThanOneChar

none_single : (mode : Mode) (text : List ℕ) (e : EscapeError) → NoUnit Strict mode text → IsSingle mode text (Err e)
none_single mode text e none = record {
  value = tt;
  malformed = λ v h. none text [] (Some v) (sym (append-nil text)) h;
  more = λ cs rest v j h l. absurd (none cs rest (Some v) j h);
}

scan_nil : (mode : Mode) → scan mode [] ≡ Malformed
unfolding scan
scan_nil mode = refl

pub empty_single : (mode : Mode) (bytes : List ℕ) (e : EscapeError) → length bytes ≡ 0
    → IsSingle mode (chars bytes) (Err e)
empty_single mode bytes e l =
    let none : chars bytes ≡ [] = rest_end bytes 0 (omega arith) in
    none_single mode (chars bytes) e (none_read mode (chars bytes) (ap (scan mode) none ∙ scan_nil mode))

pub refused_single : (mode : Mode) (bytes : List ℕ) (reading : Reading) (e : EscapeError)
    → IsScanned bytes 0 reading (scan mode (rest_at bytes 0)) → reading.value ≡ Err e
    → IsSingle mode (chars bytes) (Err e)
refused_single mode bytes reading e s k = let (same, _) =
    rw k at s.same in none_single mode (chars bytes) e (none_read mode (chars bytes) same)

quoted : (rule : Rule) (mode : Mode) (cs rest : List ℕ) (o : Option Value) → rule ≡ Strict → o ≡ None
    → IsUnit rule mode cs rest o → in_double_quotes mode ≡ true
quoted rule mode _ rest _ e n (plain h) = cc
quoted rule mode _ rest _ e n (escape r h) = cc
quoted rule mode _ rest _ e n (skip r q h s) = q
quoted rule mode _ _ _ e n (return q) = q

pub skips_quoted : (mode : Mode) (bytes : List ℕ) (reading : Reading)
    → IsScanned bytes 0 reading (scan mode (rest_at bytes 0)) → reading.value ≡ Ok None → in_double_quotes mode ≡ false
    → ⊥
skips_quoted mode bytes reading s k f =
    let same = rw k at s.same in
    let u = unit_found mode (rest_at bytes 0) (rest_at bytes reading.«end») None same in
    false≢true (sym f ∙ quoted Strict mode u.chars (rest_at bytes reading.«end») None refl refl u.is)

-- what stands behind the unit is what was left
left : (mode : Mode) (text cs rest after : List ℕ) (v w : Option Value) → scan mode text ≡ Reads w after → text
    ≡ cs ++ rest → IsUnit Strict mode cs rest v → rest ≡ after
left mode text cs rest after v w k j h =
    let read : scan mode (cs ++ rest) ≡ Reads v rest = unit_read Strict mode cs rest v refl h in
    let same : Reads v rest ≡ Reads w after = sym read ∙ sym (ap (scan mode) j) ∙ k in
    cc

only_whole : (mode : Mode) (text cs rest : List ℕ) (v : Value) → text ≡ cs ++ rest → rest ≡ []
    → IsUnit Strict mode cs rest (Some v) → IsOnlyUnit mode text v
only_whole mode text cs rest v j n h = let h' = rw n at h in rw (j, n, append-nil cs) h'

pub found_single : (mode : Mode) (bytes : List ℕ) (reading : Reading) (value : Value) (r : Result Value EscapeError)
    → IsScanned bytes 0 reading (scan mode (rest_at bytes 0)) → reading.value ≡ Ok (Some value)
    → (length bytes ≤ reading.«end» → r ≡ Ok value) → (reading.«end» < length bytes → r ≡ Err MoreThanOneChar)
    → IsSingle mode (chars bytes) r
found_single mode bytes reading value r s k whole more =
    let to = reading.«end» in
    let same = rw k at s.same in
    let u = unit_found mode (rest_at bytes 0) (rest_at bytes to) (Some value) same in
    let behind = λ (cs rest : List ℕ) (v : Value) (j : chars bytes ≡ cs ++ rest)
    (h : IsUnit Strict mode cs rest (Some v)). left mode (chars bytes) cs rest (rest_at bytes to) (Some v)
    (Some value) same j h in
    ⊎_elim
    (λ l. let size = byte_length-rest bytes to s.place in
    rw (more l) (record {
      value = tt;
      malformed = λ v h. let none : [] ≡ rest_at bytes to =
          behind (chars bytes) [] v (sym (append-nil (chars bytes))) h in
          let zero_size : byte_length (rest_at bytes to) ≡ 0 = ap byte_length (sym none) in omega arith;
      more = λ cs rest v j h p. refl;
    }))
    (λ l. let none : rest_at bytes to ≡ [] = rest_end bytes to l in
    rw (whole l) (record {
      value = only_whole mode (chars bytes) u.chars (rest_at bytes to) value u.joined none u.is;
      malformed = tt;
      more = λ cs rest v j h p. let e : rest ≡ [] = behind cs rest v j h ∙ none in let q : length rest ≡ 0 =
          ap length e in absurd (omega arith);
    }))
    (cases_lt to (length bytes))
