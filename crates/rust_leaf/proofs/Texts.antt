-- Texts as bytes and as characters.
use Rattle.std.proofs.Common.{◌≡◌, ℕ, ◌==◌, Bool, true, false, List, [], ◌∷◌, ◌++◌, length, IsTrue, refl, sym, ◌∙◌}
use Rattle.std.proofs.Common.{ap, arith, ◌<◌, take, slice_index_or}
use Rattle.std.specs.Bool.{Decides}
use Rattle.std.specs.Char.{is_ascii}
use Rattle.std.specs.List.{list_all}
use Rattle.std.specs.Prelude.{String, string_bytes}
use Rattle.rust_leaf.specs.Identifier.{is_ident_text}
use Rattle.rust_leaf.specs.Leaf.{AreCharacters, ident_text, literal_text, text_of}
use Rattle.rust_leaf.specs.declared.ident.Ident.{Ident}
use Rattle.rust_leaf.specs.declared.literal.Literal.{Literal}
use Rattle.rust_leaf.specs.LeafText.{leaf_bytes}
use Rattle.rust_leaf.specs.declared.leaf_text.LeafText.{LeafText}
use Rattle.std.specs.Str.{chars, encode_utf8_all, IsUtf8, IsAscii, bytes_eq}
use Rattle.std.proofs.lemmas.Bool.{ltb-true, and_parts}
use Rattle.std.proofs.lemmas.Bool.Decides.{nat_tests}
use Rattle.std.proofs.lemmas.Slice.Eq.{bytes_eq-Decides}
use Rattle.std.proofs.lemmas.Str.{IsUtf8-string_bytes, IsUtf8-from_is_utf8, scalars-chars, chars-nil, encodes-chars}
use Rattle.std.proofs.lemmas.Str.{encodes-IsAscii, chars-IsAscii, chars-append, IsUtf8-from_ascii}
use Rattle.std.proofs.lemmas.Str.Ascii.{IsAscii-nil, IsAscii-cons}

-- two texts of the same characters are the same bytes
pub same_bytes : (xs ys : List ℕ) → IsUtf8 xs → IsUtf8 ys → chars xs ≡ chars ys → xs ≡ ys
same_bytes xs ys u v e = sym (encodes-chars xs u) ∙ ap encode_utf8_all e ∙ encodes-chars ys v

-- bytes decide whether two texts are the same characters
pub bytes_eq-same : (xs ys : List ℕ) → IsUtf8 xs → IsUtf8 ys → Decides (bytes_eq xs ys) (chars xs ≡ chars ys)
bytes_eq-same xs ys u v =
    ((λ e. ap chars ((bytes_eq-Decides xs ys).0 e)), (λ e. (bytes_eq-Decides xs ys).1 (same_bytes xs ys u v e)))

same_tests : {P Q : Type 0} (a b : Bool) → Decides a P → Decides b Q → (P → Q) → (Q → P) → a ≡ b
same_tests true true d e f g = refl
same_tests false false d e f g = refl
same_tests true false d e f g = sym (e.1 (f (d.0 refl)))
same_tests false true d e f g = d.1 (g (e.0 refl))

-- a text compared with an ASCII word, as bytes and as characters
pub bytes_eq-chars : (bs word : List ℕ) → IsUtf8 bs → IsAscii word → bytes_eq (chars bs) word ≡ bytes_eq bs word
bytes_eq-chars bs word u a =
    same_tests (bytes_eq (chars bs) word) (bytes_eq bs word) (bytes_eq-Decides (chars bs) word)
    (bytes_eq-Decides bs word)
    (λ e. sym (encodes-chars bs u) ∙ ap encode_utf8_all e ∙ encodes-IsAscii word a)
    (λ e. ap chars e ∙ chars-IsAscii word a)

-- a text is empty as bytes where it is as characters
pub chars_is_empty : (bs : List ℕ) → IsUtf8 bs → (length bs == 0) ≡ (length (chars bs) == 0)
chars_is_empty [] u = rw chars-nil refl
chars_is_empty (b ∷ bs) u = filled (chars (b ∷ bs)) (encodes-chars (b ∷ bs) u)
  where
    filled : (cs : List ℕ) → encode_utf8_all cs ≡ b ∷ bs → (length (b ∷ bs) == 0) ≡ (length cs == 0)
    filled [] e = cc
    filled (c ∷ cs) e = grind (arith, nat_tests)

-- a word of ASCII characters, by a test that computes
pub ascii_word : (word : List ℕ) → IsTrue (list_all is_ascii word) → IsAscii word
ascii_word [] t = IsAscii-nil
ascii_word (c ∷ cs) t = let h =
    and_parts (is_ascii c) (list_all is_ascii cs) t in IsAscii-cons c cs (ltb-true c 128 h.0) (ascii_word cs h.1)

-- the characters behind an ASCII word
pub chars_behind : (word bs : List ℕ) → IsAscii word → chars (word ++ bs) ≡ word ++ chars bs
chars_behind word bs a = chars-append word bs (IsUtf8-from_ascii word a)
    ∙ ap (λ cs. cs ++ chars bs) (chars-IsAscii word a)

-- a string prints its characters
pub printed_text : {A : Type 0} (s : String A) → encode_utf8_all (text_of s) ≡ string_bytes s
printed_text s = encodes-chars (string_bytes s) (IsUtf8-string_bytes s)

-- and so does the text of a leaf, which is UTF-8
pub leaf_utf8 : (t : LeafText) → IsUtf8 (leaf_bytes t)
leaf_utf8 t = IsUtf8-from_is_utf8 (leaf_bytes t) t.is_text

pub printed_leaf : (t : LeafText) → encode_utf8_all (chars (leaf_bytes t)) ≡ leaf_bytes t
printed_leaf t = encodes-chars (leaf_bytes t) (leaf_utf8 t)

bytes_filled : (bs : List ℕ) → IsTrue (is_ident_text (chars bs)) → 0 < length bs
bytes_filled [] t = let none = rw chars-nil at t in cc
bytes_filled (b ∷ bs) t = omega arith

-- the text of an identifier isn't empty
pub ident_filled : (i : Ident) (bs : List ℕ) → bs ≡ leaf_bytes i.text → 0 < length bs
ident_filled i bs same = omega (arith, bytes_filled (leaf_bytes i.text) i.is_printed, ap length same)

-- the first byte of a text, by itself
pub first_alone : (bs own : List ℕ) → bs ≡ own → 0 < length bs → take 1 own ≡ slice_index_or bs 0 0 ∷ []
first_alone [] own same filled = absurd (omega arith)
first_alone (b ∷ bs) own same filled = ap (take 1) (sym same)

-- what a leaf prints are characters
pub ident_characters : (i : Ident) → AreCharacters (ident_text i)
ident_characters i = scalars-chars (leaf_bytes i.text) (leaf_utf8 i.text)

pub literal_characters : (l : Literal) → AreCharacters (literal_text l)
literal_characters l = scalars-chars (leaf_bytes l.text) (leaf_utf8 l.text)
