-- What is written in quotes is a literal by itself.
use Rattle.std.proofs.Common.{◌≡◌, ℕ, ◌<◌, List, [], ◌∷◌, ◌++◌, codes, refl, sym, ap, ◌∙◌, subst, inl}
use Rattle.std.specs.Prelude.{true, false, Some, map}
use Rattle.std.specs.List.{flat_map}
use Rattle.std.proofs.Math.Utf8.{scalar, scalars}
use Rattle.std.proofs.lemmas.List.{append-nil}
use Rattle.rust_escape.specs.Unit.{Lexical, IsInside}
use Rattle.rust_escape.specs.Value.{byte_value}
use Rattle.rust_escape.specs.declared.mode.Mode.{Mode}
use Rattle.rust_escape.specs.declared.mode.Mode.TheVariants as modes
use Rattle.rust_escape.specs.declared.value.Value.{Value}
use Rattle.rust_escape.specs.declared.value.Value.TheVariants.{Character}
use Rattle.rust_leaf.specs.CString.{part_text, IsCString, has_zero}
use Rattle.rust_leaf.specs.Escaped.{escaped, escaped_all, escaped_byte, escaped_bytes, string_text, character_text}
use Rattle.rust_leaf.specs.Escaped.{byte_character_text, byte_string_text}
use Rattle.rust_leaf.specs.Parse.{IsLiteralLeaf}
use Rattle.rust_leaf.specs.Value.{AreBytes}
use Rattle.rust_leaf.proofs.Written.{byte_character_unit, bytes_inside, c_inside, character_unit, part_value}
use Rattle.rust_leaf.proofs.Written.{string_inside}
use Rattle.rust_lex.specs.Quoted.{IsCooked, opening_of, literal_kind, IsTail}

-- an opening, and what the lexer takes behind it
whole : (mode : Mode) (tail : List ℕ) → IsTail mode tail → IsLiteralLeaf (opening_of mode ++ tail)
whole mode tail t = (
  literal_kind mode,
  (opening_of mode ++ tail, [], sym (append-nil (opening_of mode ++ tail)), inl (mode, tail, refl, refl, t), refl),
)

cooked : (mode : Mode) (inside : List ℕ) (values : List Value) → IsInside Lexical mode inside (34 ∷ []) values
    → IsCooked mode (inside ++ 34 ∷ [])
cooked mode inside values i = record { inside = inside; values = values; joined = refl; is = i }

pub string_literal : (cs : List ℕ) → scalars cs ≡ true → IsLiteralLeaf (string_text cs)
string_literal cs h = whole modes.Str (escaped_all 34 cs ++ 34 ∷ [])
    (cooked modes.Str (escaped_all 34 cs) _ (string_inside Lexical cs (34 ∷ []) h))

pub character_literal : (c : ℕ) → scalar c ≡ true → IsLiteralLeaf (character_text c)
character_literal c h = whole modes.Char (escaped 39 c [] ++ 39 ∷ [])
    (record {
      unit = escaped 39 c [];
      value = Some (Character c);
      joined = refl;
      is = character_unit Lexical c (39 ∷ []) h;
    })

pub byte_literal : (b : ℕ) → b < 256 → IsLiteralLeaf (byte_character_text b)
byte_literal b h = whole modes.Byte (escaped_byte 39 b [] ++ 39 ∷ [])
    (record {
      unit = escaped_byte 39 b [];
      value = Some (byte_value b);
      joined = refl;
      is = byte_character_unit Lexical b (39 ∷ []) h;
    })

pub byte_string_literal : (bs : List ℕ) → AreBytes bs → IsLiteralLeaf (byte_string_text bs)
byte_string_literal bs h =
    whole modes.ByteStr (escaped_bytes 34 bs ++ 34 ∷ [])
    (cooked modes.ByteStr (escaped_bytes 34 bs) _ (bytes_inside Lexical bs (34 ∷ []) h))

pub c_string_literal : (bs cs : List ℕ) → AreBytes bs → has_zero bs ≡ false → IsCString bs cs → IsLiteralLeaf cs
c_string_literal bs cs b z s =
    let w = s.written in
    let text = flat_map part_text w.parts in
    subst IsLiteralLeaf (sym (s.quoted ∙ ap (λ x. codes "c\"" ++ x ++ codes "\"") w.same))
    (whole modes.CStr (text ++ 34 ∷ [])
    (cooked modes.CStr text (map part_value w.parts) (c_inside Lexical (34 ∷ []) w.parts bs w.read b z).units))
