-- The values of literals of each class in quotes.
use Rattle.std.proofs.Common.{◌≡◌, ℕ, ◌<◌, ◌≤◌, List, [], ◌∷◌, refl, sym, ap, ◌∙◌, subst}
use Rattle.std.specs.Prelude.{Bool, true, false, ◌||◌, Some, map, Result, Ok, Err, IfOk}
use Rattle.std.specs.List.{flat_map}
use Rattle.std.proofs.lemmas.Bool.{lt-ltb, le-ltb}
use Rattle.rust_escape.specs.Mode.{holds_bytes, holds_c, in_double_quotes}
use Rattle.rust_escape.specs.Unit.{Lexical, IsInside, IsUnit}
use Rattle.rust_escape.specs.Value.{IsByte, IsCharacter, byte_value}
use Rattle.rust_escape.specs.declared.mode.Mode.{Mode}
use Rattle.rust_escape.specs.declared.mode.Mode.TheVariants as modes
use Rattle.rust_escape.specs.declared.value.Value.{Value}
use Rattle.rust_escape.specs.declared.value.Value.TheVariants.{Character, HighByte}
use Rattle.rust_leaf.specs.Value.{value_bytes}
use Rattle.rust_lex.specs.declared.piece.LiteralKind.{LiteralKind}
use Rattle.rust_lex.specs.declared.piece.LiteralKind.TheVariants as kinds
use Rattle.syn_leaf.specs.Kinds.{IsKind}
use Rattle.syn_leaf.specs.Quoted.{IsTakenApart, Spells, SpellsBytes, TakesUnits, has, is_quoted, mode_of}
use Rattle.syn_leaf.proofs.Apart.{only_spelled, only_there, spells}
use Rattle.syn_leaf.proofs.OfClass.{kind_had}
use Rattle.syn_leaf.proofs.Spellings.{byte_unit, text_units}

pub class_there : (k j : LiteralKind) (text shown token : List ℕ) → j ≡ k → text ≡ shown → shown ≡ token
    → ∥ IsKind k token ∥₁ → IsKind j text
class_there k j text shown token e f g t =
    subst (λ x. IsKind x text) (sym e) (subst (IsKind k) (sym (f ∙ g)) (kind_had k token t))

pub if_ok : {A E : Type 0} {P Q : A → Type 0} (r : Result A E) → ((x : A) → P x → Q x) → IfOk r P → IfOk r Q
if_ok (Ok x) f h = f x h
if_ok (Err e) f h = tt

-- strings
in_text : (raw : Bool) → (holds_bytes (mode_of kinds.Str raw) || holds_c (mode_of kinds.Str raw)) ≡ false
in_text true = refl
in_text false = refl

pub text_takes : (text inside closing : List ℕ) (mode : Mode) → IsTakenApart kinds.Str text mode inside closing
    → TakesUnits IsCharacter mode
text_takes text inside closing mode a =
    subst (TakesUnits IsCharacter) (sym a.mode_is)
    (text_units (mode_of kinds.Str (has 114 a.opening)) (in_text (has 114 a.opening)))

pub text_spelled : (text inside closing out : List ℕ) (mode : Mode) (values : List Value) → IsKind kinds.Str text
    → IsTakenApart kinds.Str text mode inside closing → IsInside Lexical mode inside [] values
    → values ≡ map Character out → Spells kinds.Str text (map Character out)
text_spelled text inside closing out mode values k a i e =
    subst (Spells kinds.Str text) e (spells kinds.Str text inside closing mode values refl k a i)

pub bytes_spelled : (kind : LiteralKind) (text inside closing out : List ℕ) (mode : Mode) (values : List Value)
    → is_quoted kind ≡ true → IsKind kind text → IsTakenApart kind text mode inside closing
    → IsInside Lexical mode inside [] values → out ≡ flat_map value_bytes values → SpellsBytes kind text out
bytes_spelled kind text inside closing out mode values q k a i e =
    record { values = values; spelled = spells kind text inside closing mode values q k a i; bytes_are = e }

-- characters
pub char_there : (text inside closing : List ℕ) (mode : Mode) → IsKind kinds.Char text
    → IsTakenApart kinds.Char text mode inside closing → (v : Value) × IsUnit Lexical mode inside [] (Some v)
char_there text inside closing mode k a =
    only_there kinds.Char text inside closing mode refl (ap in_double_quotes a.mode_is) k a

pub char_only : (text inside closing : List ℕ) (mode : Mode) (b : ℕ) (v : Value)
    → IsTakenApart kinds.Char text mode inside closing → IsUnit Lexical mode inside [] (Some v) → v ≡ HighByte b → ⊥
char_only text inside closing mode b v a u e =
    subst IsCharacter e (subst (TakesUnits IsCharacter) (sym a.mode_is) (text_units modes.Char refl) inside [] v u)

pub char_spelled : (text inside closing : List ℕ) (mode : Mode) (c : ℕ) (v : Value) → IsKind kinds.Char text
    → IsTakenApart kinds.Char text mode inside closing → IsUnit Lexical mode inside [] (Some v) → v ≡ Character c
    → Spells kinds.Char text (Character c ∷ [])
char_spelled text inside closing mode c v k a u e =
    subst (λ x. Spells kinds.Char text (x ∷ [])) e
    (only_spelled kinds.Char text inside closing mode v refl (ap in_double_quotes a.mode_is) k a u)

-- bytes
pub byte_there : (text inside closing : List ℕ) (mode : Mode) → IsKind kinds.Byte text
    → IsTakenApart kinds.Byte text mode inside closing → (v : Value) × IsUnit Lexical mode inside [] (Some v)
byte_there text inside closing mode k a =
    only_there kinds.Byte text inside closing mode refl (ap in_double_quotes a.mode_is) k a

pub byte_only : (text inside closing : List ℕ) (mode : Mode) (v : Value)
    → IsTakenApart kinds.Byte text mode inside closing
    → IsUnit Lexical mode inside [] (Some v) → IsByte v
byte_only text inside closing mode v a u = subst (TakesUnits IsByte) (sym a.mode_is) byte_unit inside [] v u

pub narrow : (text inside closing : List ℕ) (mode : Mode) (c : ℕ) (v : Value)
    → IsTakenApart kinds.Byte text mode inside closing → IsUnit Lexical mode inside [] (Some v) → v ≡ Character c
    → c < 128
narrow text inside closing mode c v a u e = subst IsByte e (byte_only text inside closing mode v a u)

byte_spelled : (text inside closing : List ℕ) (mode : Mode) (n : ℕ) (v : Value) → IsKind kinds.Byte text
    → IsTakenApart kinds.Byte text mode inside closing → IsUnit Lexical mode inside [] (Some v) → v ≡ byte_value n
    → Spells kinds.Byte text (byte_value n ∷ [])
byte_spelled text inside closing mode n v k a u e =
    subst (λ x. Spells kinds.Byte text (x ∷ [])) e
    (only_spelled kinds.Byte text inside closing mode v refl (ap in_double_quotes a.mode_is) k a u)

pub narrow_spelled : (text inside closing : List ℕ) (mode : Mode) (c n : ℕ) (v : Value) → IsKind kinds.Byte text
    → IsTakenApart kinds.Byte text mode inside closing → IsUnit Lexical mode inside [] (Some v) → v ≡ Character c
    → n ≡ c → Spells kinds.Byte text (byte_value n ∷ [])
narrow_spelled text inside closing mode c n v k a u e f =
    let low = narrow text inside closing mode c v a u e in
    let is : Character c ≡ byte_value c = rw (lt-ltb c 128 low) refl in
    byte_spelled text inside closing mode n v k a u (e ∙ is ∙ ap byte_value (sym f))

pub high_spelled : (text inside closing : List ℕ) (mode : Mode) (b : ℕ) (v : Value) → IsKind kinds.Byte text
    → IsTakenApart kinds.Byte text mode inside closing → IsUnit Lexical mode inside [] (Some v) → v ≡ HighByte b
    → Spells kinds.Byte text (byte_value b ∷ [])
high_spelled text inside closing mode b v k a u e =
    let high : 128 ≤ b = subst IsByte e (byte_only text inside closing mode v a u) in
    let is : HighByte b ≡ byte_value b = rw (le-ltb b 128 high) refl in
    byte_spelled text inside closing mode b v k a u (e ∙ is)
