-- The values of character and byte literals.
use Rattle.std.proofs.Common.{◌≡◌, ℕ, List, [], ◌∷◌, ◌++◌, sym, ap, ◌∙◌, subst}
use Rattle.std.specs.Prelude.{Some}
use Rattle.rust_escape.specs.Unit.{IsOnlyUnit, Strict}
use Rattle.rust_escape.specs.Value.{byte_value}
use Rattle.rust_escape.specs.declared.mode.Mode.{Mode}
use Rattle.rust_escape.specs.declared.mode.Mode.TheVariants.{Byte, Char}
use Rattle.rust_escape.specs.declared.value.Value.{Value}
use Rattle.rust_escape.specs.declared.value.Value.TheVariants.{Character}
use Rattle.rust_leaf.specs.Quoted.{in_byte_quotes, in_single_quotes}
use Rattle.rust_leaf.specs.Value.{IsByteValue, IsCharValue, IsMalformedByte, IsMalformedChar}
use Rattle.rust_leaf.proofs.Quotes.{heads, last_same}
use Rattle.rust_leaf.proofs.Spellings.{one_unit}
use Rattle.rust_leaf.proofs.Values.{byte_number, number_of}

-- one text has one inside
single_inside : (xs ys : List ℕ) → in_single_quotes xs ≡ in_single_quotes ys → xs ≡ ys
single_inside xs ys e = last_same 39 xs ys (heads 39 39 (xs ++ 39 ∷ []) (ys ++ 39 ∷ []) e).1

byte_inside : (xs ys : List ℕ) → in_byte_quotes xs ≡ in_byte_quotes ys → xs ≡ ys
byte_inside xs ys e = single_inside xs ys (heads 98 98 (in_single_quotes xs) (in_single_quotes ys) e).1

pub malformed_char : (text inside : List ℕ) → text ≡ in_single_quotes inside
    → ((v : Value) → IsOnlyUnit Char inside v → ⊥) → IsMalformedChar text
malformed_char text inside e never = (
  (inside, e),
  λ c h. never (Character c)
      (subst (λ x. IsOnlyUnit Char x (Character c)) (single_inside h.inside inside (sym h.quoted ∙ e)) h.unit),
)

pub malformed_byte : (text inside : List ℕ) → text ≡ in_byte_quotes inside
    → ((v : Value) → IsOnlyUnit Byte inside v → ⊥) → IsMalformedByte text
malformed_byte text inside e never = (
  (inside, e),
  λ b h. never (byte_value b)
      (subst (λ x. IsOnlyUnit Byte x (byte_value b)) (byte_inside h.inside inside (sym h.quoted ∙ e)) h.unit),
)

-- one unit has one value
only_value : (mode : Mode) (xs ys : List ℕ) (v w : Value) → xs ≡ ys → IsOnlyUnit mode xs v → IsOnlyUnit mode ys w
    → v ≡ w
only_value mode xs ys v w e h k =
    let (rests, same) = one_unit Strict mode xs [] ys [] (Some v) (Some w) (ap (λ x. x ++ []) e) h k in
    cc

-- one text has one value
pub one_char : (text : List ℕ) (c d : ℕ) → IsCharValue text c → IsCharValue text d → c ≡ d
one_char text c d h k =
    let inside = single_inside h.inside k.inside (sym h.quoted ∙ k.quoted) in
    ap number_of (only_value Char h.inside k.inside (Character c) (Character d) inside h.unit k.unit)

pub one_byte : (text : List ℕ) (b d : ℕ) → IsByteValue text b → IsByteValue text d → b ≡ d
one_byte text b d h k =
    let inside = byte_inside h.inside k.inside (sym h.quoted ∙ k.quoted) in
    sym (byte_number b) ∙ ap number_of
    (only_value Byte h.inside k.inside (byte_value b) (byte_value d) inside h.unit k.unit)
    ∙ byte_number d
