-- What the units of an inside spell, by the lexical rule.
use Rattle.std.proofs.Common.{◌≡◌, ℕ, ◌<◌, List, [], ◌∷◌, refl, sym, ap, ◌∙◌, subst, arith}
use Rattle.std.specs.Prelude.{Bool, true, false, ◌||◌, Option, Some, None, IfSome, nat_lt, not}
use Rattle.std.specs.Prelude.{if◌then◌else◌}
use Rattle.std.specs.Str.{chars}
use Rattle.std.proofs.lemmas.Bool.{and_parts, ltb-true}
use Rattle.std.proofs.lemmas.Str.{chars-nil}
use Rattle.rust_escape.specs.Escape.{may_hold}
use Rattle.rust_escape.specs.Mode.{holds_bytes, holds_c, is_raw}
use Rattle.rust_escape.specs.Unit.{Rule, Lexical, IsUnit, barred, plain, escape, skip, return}
use Rattle.rust_escape.specs.Chars.{is_among}
use Rattle.rust_escape.specs.Value.{IsByte, IsCharacter}
use Rattle.rust_escape.specs.declared.mode.Mode.{Mode}
use Rattle.rust_escape.specs.declared.mode.Mode.TheVariants as modes
use Rattle.rust_escape.specs.declared.value.Value.{Value}
use Rattle.rust_escape.specs.declared.value.Value.TheVariants.{Character}
use Rattle.rust_escape.specs.declared.error.EscapeError.{EscapeError}
use Rattle.rust_escape.specs.declared.read.Reading.{Reading}
use Rattle.rust_escape.specs.Places.{rest_at, between_places}
use Rattle.rust_escape.specs.Reads.{ReadsUnit}
use Rattle.rust_leaf.proofs.Spellings.{one_unit}
use Rattle.std.specs.Prelude.{Result, Ok, Err}
use Rattle.std.proofs.Common.{length}
use Rattle.std.proofs.lemmas.List.{append-nil}
use Rattle.rust_escape.proofs.Values.{takes_bytes, takes_texts}
use Rattle.syn_leaf.specs.Quoted.{TakesUnits}

pub no_word : chars [] ≡ []
no_word = chars-nil

-- a text's units spell characters
by_raw : (raw : Bool) → IfSome (if raw then Some (Character 13) else None) IsCharacter
by_raw true = tt
by_raw false = tt

character : (rule : Rule) (mode : Mode) (cs rest : List ℕ) (o : Option Value)
    → (holds_bytes mode || holds_c mode) ≡ false
    → IsUnit rule mode cs rest o → IfSome o IsCharacter
character rule mode _ rest _ f (plain {c = c} h) = tt
character rule mode _ rest _ f (escape {cs = cs} {value = v} w h) = takes_texts mode f _ rest v (escape {cs = cs} w h)
character rule mode _ rest _ f (skip w d h s) = tt
character rule mode _ _ _ f (return d) = by_raw (is_raw mode)

pub text_units : (mode : Mode) → (holds_bytes mode || holds_c mode) ≡ false → TakesUnits IsCharacter mode
text_units mode f cs rest v u = character Lexical mode cs rest (Some v) f u

-- a byte literal's unit spells a byte
byte : (rule : Rule) (mode : Mode) (cs rest : List ℕ) (o : Option Value) → modes.Byte ≡ mode
    → IsUnit rule mode cs rest o
    → IfSome o IsByte
byte rule mode _ rest _ m (plain {c = c} h) =
    let held = (and_parts (not (is_among (barred rule mode) c)) _ h).1 in
    let narrow = (and_parts (may_hold mode c) (nat_lt c 128 || not (holds_bytes mode)) held).1 in
    small (nat_lt c 128) (holds_bytes mode) refl (sym (ap holds_bytes m)) narrow
  where
    small : (b t : Bool) → nat_lt c 128 ≡ b → t ≡ true → (b || not t) ≡ true → c < 128
    small true t e f g = ltb-true c 128 e
    small false true e f g = cc
    small false false e f g = cc
byte rule mode _ rest _ m (escape {cs = cs} {value = v} w h) =
    takes_bytes mode (sym (ap holds_bytes m)) _ rest v (escape {cs = cs} w h)
byte rule mode _ rest _ m (skip w d h s) = tt
byte rule mode _ _ _ m (return d) = cc

pub byte_unit : TakesUnits IsByte modes.Byte
byte_unit cs rest v u = byte Lexical modes.Byte cs rest (Some v) refl u

-- where the whole is one unit, it is read
filled : (rule : Rule) (mode : Mode) (cs rest : List ℕ) (o : Option Value) → IsUnit rule mode cs rest o → cs ≡ [] → ⊥
filled rule mode _ rest _ (plain h) e = cc
filled rule mode _ rest _ (escape w h) e = cc
filled rule mode _ rest _ (skip w d h s) e = cc
filled rule mode _ _ _ (return d) e = cc

pub unit_there : (mode : Mode) (bs : List ℕ) → ((v : Value) × IsUnit Lexical mode (chars bs) [] (Some v))
    → 0 < length bs
unit_there mode [] (v, u) = absurd (filled Lexical mode (chars []) [] (Some v) u chars-nil)
unit_there mode (b ∷ bs) (v, u) = omega arith

read : (mode : Mode) (bs : List ℕ) (v : Value) (reading : Reading) (o : Result (Option Value) EscapeError)
    → IsUnit Lexical mode (chars bs) [] (Some v) → ReadsUnit Lexical mode bs 0 reading → reading.value ≡ o
    → o ≡ Ok (Some v)
read mode bs v reading (Ok (Some w)) u r e =
    let at = rw e at r.found in
    let (rests, values) = one_unit Lexical mode (between_places bs 0 reading.«end») (rest_at bs reading.«end»)
    (chars bs) []
    (Some w) (Some v) (sym at.joined ∙ sym (append-nil (chars bs))) at.is u in
    ap (λ x. Ok x) values
read mode bs v reading (Ok None) u r e =
    let at = rw e at r.found in
    let (rests, values) = one_unit Lexical mode (between_places bs 0 reading.«end») (rest_at bs reading.«end»)
    (chars bs) []
    None (Some v) (sym at.joined ∙ sym (append-nil (chars bs))) at.is u in
    cc
read mode bs v reading (Err x) u r e =
    let never = rw e at r.found in absurd (never.0 (chars bs) [] (Some v) (sym (append-nil (chars bs))) u)

pub unit_read : (mode : Mode) (bs : List ℕ) (reading : Reading)
    → (one : (v : Value) × IsUnit Lexical mode (chars bs) [] (Some v)) → ReadsUnit Lexical mode bs 0 reading
    → reading.value ≡ Ok (Some one.0)
unit_read mode bs reading (v, u) r = read mode bs v reading reading.value u r refl

pub unit_is : (mode : Mode) (bs : List ℕ) (reading : Reading) (w : Value)
    → ((v : Value) × IsUnit Lexical mode (chars bs) [] (Some v)) → ReadsUnit Lexical mode bs 0 reading
    → reading.value ≡ Ok (Some w) → IsUnit Lexical mode (chars bs) [] (Some w)
unit_is mode bs reading w (v, u) r e =
    let both : reading.value ≡ Ok (Some v) = read mode bs v reading reading.value u r refl in
    let same : v ≡ w = cc in
    subst (λ x. IsUnit Lexical mode (chars bs) [] (Some x)) same u

pub unit_some : (mode : Mode) (bs : List ℕ) (reading : Reading) (o : Option Value)
    → ((v : Value) × IsUnit Lexical mode (chars bs) [] (Some v)) → ReadsUnit Lexical mode bs 0 reading
    → reading.value ≡ Ok o → o ≡ None → ⊥
unit_some mode bs reading o (v, u) r e n =
    let both : reading.value ≡ Ok (Some v) = read mode bs v reading reading.value u r refl in
    cc
