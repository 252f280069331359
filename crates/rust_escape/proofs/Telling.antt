-- What the loop over the units of an inside keeps: the calls still to be made and those made are all.
use Rattle.std.proofs.Common.{◌≡◌, ℕ, ◌+◌, ◌≤◌, ◌<◌, arith, List, [], ◌∷◌, ◌++◌, refl, sym, subst, length}
use Rattle.std.specs.Prelude.{true, Option, Some, None, Result, Ok, Err, map}
use Rattle.std.specs.List.{FoldsTo}
use Rattle.std.specs.Str.{chars, IsUtf8}
use Rattle.rust_escape.specs.Chars.{is_white}
use Rattle.rust_escape.specs.declared.error.EscapeError.TheVariants.{UnskippedWhitespaceWarning}
use Rattle.std.specs.declared.ops.Range.{Range}
use Rattle.rust_escape.specs.Calls.{TakesUnits, Report, report, AreReports, none, spelled, skipped, malformed}
use Rattle.rust_escape.specs.Calls.{Reports, fault, failed, warnings, white_warning}
use Rattle.rust_escape.specs.Error.{is_fatal}
use Rattle.rust_escape.specs.Mode.{Mode}
use Rattle.rust_escape.specs.Places.{rest_at, IsPlace, IsScanned, byte_length, between_places}
use Rattle.rust_escape.specs.Scan.{scan}
use Rattle.rust_escape.specs.Unit.{Strict, IsUnit, NoUnit}
use Rattle.rust_escape.specs.Value.{Value}
use Rattle.rust_escape.specs.Wrong.{past_wrong}
use Rattle.rust_escape.specs.declared.error.EscapeError.{EscapeError}
use Rattle.rust_escape.specs.declared.read.Reading.{Reading}
use Rattle.rust_escape.proofs.Complete.{none_read}
use Rattle.rust_escape.proofs.PlacesLemmas.{rest_end}
use Rattle.rust_escape.proofs.Ranges.{end_is, between_is, between_joined}
use Rattle.rust_escape.proofs.Sound.{unit_found}

-- the steps of a callback
abbrev pub steps_of : {F T : Type 0} → (F → Range ℕ → Result T EscapeError → F → Type 0) → F → Report T → F → Type 0
steps_of step f call g = step f call.range call.result g

-- the calls for what is left, made from now on, complete those that have been made
pub record IsTelling {F T : Type 0} (step : F → Range ℕ → Result T EscapeError → F → Type 0) (value : T → Value)
    (mode : Mode) (bytes : List ℕ) (first : F) (at : ℕ) (now : F) : Type 0 where
  pub place : IsPlace bytes at
  pub owed : (calls : List (Report T)) (last : F) → AreReports value mode at (rest_at bytes at) calls
      → FoldsTo (steps_of step) now calls last → Reports step value mode 0 (chars bytes) first

pub begins_telling : {F T : Type 0} (step : F → Range ℕ → Result T EscapeError → F → Type 0) (value : T → Value)
    (mode : Mode) (bytes : List ℕ) (first : F) → IsUtf8 bytes → IsTelling step value mode bytes first 0 first
begins_telling step value mode bytes first u = record {
  place = record { within = omega arith; cut = u };
  owed = λ calls last a m. record { calls = calls; are = a; last = last; made = m };
}

pub ends_telling : {F T : Type 0} (step : F → Range ℕ → Result T EscapeError → F → Type 0) (value : T → Value)
    (mode : Mode) (bytes : List ℕ) (first : F) (at : ℕ) (now : F) → length bytes ≤ at
    → IsTelling step value mode bytes first at now → Reports step value mode 0 (chars bytes) first
ends_telling {T = T} step value mode bytes first at now l t =
    t.owed [] now (subst (λ (x : List ℕ). AreReports value mode at x []) (sym (rest_end bytes at l)) none) refl

pub folds_on : {F X : Type 0} (R : F → X → F → Type 0) (f g h : F) (xs ys : List X) → FoldsTo R f xs g
    → FoldsTo R g ys h → FoldsTo R f (xs ++ ys) h
folds_on R f g h [] ys a b = subst (λ (x : _). FoldsTo R x ys h) (sym a) b
folds_on R f g h (x ∷ xs) ys a b = (a.0, a.1, folds_on R a.0 g h xs ys a.2 b)

pub white_none : (bytes : List ℕ) (from to : ℕ) → length bytes ≤ to → white_warning from to (rest_at bytes to) ≡ []
white_none bytes from to l = rw (rest_end bytes to l) refl

pub white_here : (bytes : List ℕ) (from to c next : ℕ) → rest_at bytes to ≡ c ∷ rest_at bytes next → IsPlace bytes to
    → IsPlace bytes next → is_white c ≡ true
    → white_warning from to (rest_at bytes to) ≡ fault from next UnskippedWhitespaceWarning ∷ []
white_here bytes from to c next e p q w = rw (e, w, end_is bytes (c ∷ []) to next p q e) refl

pub ruleset whites = (white_none, white_here)

-- steps on what is made of items are steps on the items
folds_map : {F X Y : Type 0} (R : F → Y → F → Type 0) (h : X → Y) (f g : F) (xs : List X)
    → FoldsTo (λ a x b. R a (h x) b) f xs g → FoldsTo R f (map h xs) g
folds_map R h f g [] e = e
folds_map R h f g (x ∷ xs) e = (e.0, e.1, folds_map R h e.0 g xs e.2)

-- what a reading found
record Stands (mode : Mode) (bytes : List ℕ) (at to : ℕ) (o : Option Value) : Type 0 where
  cs : List ℕ
  joined : rest_at bytes at ≡ cs ++ rest_at bytes to
  is : IsUnit Strict mode cs (rest_at bytes to) o
  ends : to ≡ at + byte_length cs

stands : (mode : Mode) (bytes : List ℕ) (at : ℕ) (reading : Reading) (o : Option Value) → IsPlace bytes at
    → IsScanned bytes at reading (scan mode (rest_at bytes at)) → reading.value ≡ Ok o
    → Stands mode bytes at reading.«end» o
stands mode bytes at reading o p s e =
    let same = rw e at s.same in
    let f = unit_found mode (rest_at bytes at) (rest_at bytes reading.«end») o same in
    record {
      cs = f.chars;
      joined = f.joined;
      is = f.is;
      ends = end_is bytes f.chars at reading.«end» p s.place f.joined;
    }

spelled_at : {T : Type 0} (value : T → Value) (mode : Mode) (at to : ℕ) (text cs rest : List ℕ) (v : Value) (unit : T)
    (calls : List (Report T))
    → text ≡ cs ++ rest → to ≡ at + byte_length cs → value unit ≡ v → IsUnit Strict mode cs rest (Some v)
    → AreReports value mode to rest calls
    → AreReports value mode at text (report at to (Ok unit) ∷ calls)
spelled_at value mode at to text cs rest v unit calls e k same is more =
    let more' = rw k at more in
    let is' = rw (← same) at is in
    rw (e, k) (spelled is' more')

skipped_at : {T : Type 0} (value : T → Value) (mode : Mode) (at to : ℕ) (text cs between rest : List ℕ)
    (calls : List (Report T))
    → text ≡ cs ++ rest → to ≡ at + byte_length cs → between ≡ cs → IsUnit Strict mode cs rest None
    → AreReports value mode to rest calls
    → AreReports value mode at text (map failed (warnings at to between rest) ++ calls)
skipped_at value mode at to text cs between rest calls e k same is more =
    let more' = rw k at more in
    rw (e, k, same) (skipped is more')

malformed_at : {T : Type 0} (value : T → Value) (mode : Mode) (at to : ℕ) (text cs rest : List ℕ) (error : EscapeError)
    (calls : List (Report T))
    → text ≡ cs ++ rest → to ≡ at + byte_length cs → at < to → NoUnit Strict mode text → rest ≡ past_wrong mode text
    → is_fatal error ≡ true
    → AreReports value mode to rest calls → AreReports value mode at text (report at to (Err error) ∷ calls)
malformed_at value mode at to text [] rest error calls e k l never past f more = absurd (omega arith)
malformed_at value mode at to text (c ∷ cs) rest error calls e k l never past f more =
    let never' = rw e at never in
    let past' = rw e at past in
    let more' = rw k at more in
    let some : 0 < length (c ∷ cs) = omega arith in
    rw (e, k) (malformed (c ∷ cs) some never' past' f more')

pub tells_unit : {F T : Type 0} (step : F → Range ℕ → Result T EscapeError → F → Type 0) (value : T → Value)
    (mode : Mode) (bytes : List ℕ) (first : F) (at : ℕ) (now next : F) (reading : Reading) (v : Value) (unit : T)
    → IsTelling step value mode bytes first at now → IsScanned bytes at reading (scan mode (rest_at bytes at))
    → reading.value ≡ Ok (Some v) → value unit ≡ v
    → step now (record { start = at; «end» = reading.«end» }) (Ok unit) next
    → IsTelling step value mode bytes first reading.«end» next
tells_unit step value mode bytes first at now next reading v unit t s e k made =
    let u = stands mode bytes at reading (Some v) t.place s e in
    record {
      place = s.place;
      owed = λ calls last a m.
          t.owed (report at reading.«end» (Ok unit) ∷ calls) last
          (spelled_at value mode at reading.«end» (rest_at bytes at) u.cs (rest_at bytes reading.«end») v unit calls
          u.joined u.ends k u.is a)
          (next, made, m);
    }

pub tells_skip : {F T : Type 0} (step : F → Range ℕ → Result T EscapeError → F → Type 0) (value : T → Value)
    (mode : Mode) (bytes : List ℕ) (first : F) (at : ℕ) (now next : F) (reading : Reading)
    → IsTelling step value mode bytes first at now → IsScanned bytes at reading (scan mode (rest_at bytes at))
    → reading.value ≡ Ok None
    → FoldsTo (λ f call g. step f call.range (Err call.error) g) now
    (warnings at reading.«end» (between_places bytes at reading.«end») (rest_at bytes reading.«end»)) next
    → IsTelling step value mode bytes first reading.«end» next
tells_skip {T = T} step value mode bytes first at now next reading t s e made =
    let u = stands mode bytes at reading None t.place s e in
    let to = reading.«end» in
    let said = warnings at to (between_places bytes at to) (rest_at bytes to) in
    record {
      place = s.place;
      owed = λ calls last a m.
          t.owed (map failed said ++ calls) last
          (skipped_at value mode at to (rest_at bytes at) u.cs (between_places bytes at to) (rest_at bytes to) calls
          u.joined u.ends (between_is bytes u.cs at to t.place s.place u.joined) u.is a)
          (folds_on (steps_of step) now next last (map failed said) calls
          (folds_map (steps_of step) failed now next said made) m);
    }

pub tells_malformed : {F T : Type 0} (step : F → Range ℕ → Result T EscapeError → F → Type 0) (value : T → Value)
    (mode : Mode) (bytes : List ℕ) (first : F) (at : ℕ) (now next : F) (reading : Reading) (error : EscapeError)
    → at < reading.«end» → rest_at bytes reading.«end» ≡ past_wrong mode (rest_at bytes at)
    → IsTelling step value mode bytes first at now → IsScanned bytes at reading (scan mode (rest_at bytes at))
    → reading.value ≡ Err error
    → step now (record { start = at; «end» = reading.«end» }) (Err error) next
    → IsTelling step value mode bytes first reading.«end» next
tells_malformed step value mode bytes first at now next reading error on over t s e made =
    let (none_there, fatal) = rw e at s.same in
    let to = reading.«end» in
    let cs = between_places bytes at to in
    let joined = between_joined bytes at to t.place (record { place = s.place; on = on }) in
    record {
      place = s.place;
      owed = λ calls last a m.
          t.owed (report at to (Err error) ∷ calls) last
          (malformed_at value mode at to (rest_at bytes at) cs (rest_at bytes to) error calls joined
          (end_is bytes cs at to t.place s.place joined) on (none_read mode (rest_at bytes at) none_there) over
          fatal a)
          (next, made, m);
    }

-- the value that was read is one of the literal's
pub takes_read : (takes : Value → Type 0) (mode : Mode) (bytes : List ℕ) (at : ℕ) (reading : Reading) (v : Value)
    → TakesUnits takes mode
    → IsScanned bytes at reading (scan mode (rest_at bytes at)) → reading.value ≡ Ok (Some v) → takes v
takes_read takes mode bytes at reading v t s e =
    let same = rw e at s.same in
    let f = unit_found mode (rest_at bytes at) (rest_at bytes reading.«end») (Some v) same in
    t f.chars (rest_at bytes reading.«end») v f.is
