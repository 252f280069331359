-- What the constructors in quotes put together is the text of a literal.
use Rattle.std.proofs.Common.{◌≡◌, ℕ, zero, suc, ◌<◌, List, [], ◌∷◌, ◌++◌, codes, refl, sym, ap, ◌∙◌, subst, inl}
use Rattle.std.specs.Prelude.{true, false, slice_index}
use Rattle.std.specs.Str.{chars}
use Rattle.std.proofs.Math.Utf8.{scalar, scalars}
use Rattle.std.proofs.lemmas.Str.{chars-nil}
use Rattle.rust_leaf.specs.CString.{AreWritten, IsCString, has_zero}
use Rattle.rust_leaf.specs.Escaped.{escaped, escaped_all, escaped_byte, escaped_bytes}
use Rattle.rust_leaf.specs.Parse.{IsLiteralLeaf, IsLiteralText}
use Rattle.rust_leaf.specs.Value.{AreBytes}
use Rattle.rust_leaf.proofs.Pushed.{string_opening, character_opening, byte_opening, byte_string_opening}
use Rattle.rust_leaf.proofs.Pushed.{c_string_opening}
use Rattle.rust_leaf.proofs.WrittenLiterals.{byte_literal, byte_string_literal, c_string_literal, character_literal}
use Rattle.rust_leaf.proofs.WrittenLiterals.{string_literal}

-- an opening, an inside and a closing quote
whole : (begun out opening inside : List ℕ) (quote : ℕ) → begun ≡ chars opening → chars opening ≡ opening
    → out ≡ begun ++ inside → IsLiteralLeaf ((opening ++ inside) ++ quote ∷ []) → IsLiteralText (out ++ quote ∷ [])
whole begun out opening inside quote b o e l =
    subst (λ t. IsLiteralText (t ++ quote ∷ [])) (sym (e ∙ ap (λ t. t ++ inside) (b ∙ o))) (inl l)

pub string_whole : (begun out cs : List ℕ) → scalars cs ≡ true
    → begun ≡ chars (codes "\"") → out ≡ begun ++ escaped_all 34 cs → IsLiteralText (out ++ 34 ∷ [])
string_whole begun out cs h b e =
    whole begun out (codes "\"") (escaped_all 34 cs) 34 b string_opening e (string_literal cs h)

pub character_whole : (begun out : List ℕ) (c : ℕ) → scalar c ≡ true → begun ≡ chars (codes "'")
    → out ≡ begun ++ escaped 39 c (chars []) → IsLiteralText (out ++ 39 ∷ [])
character_whole begun out c h b e =
    whole begun out (codes "'") (escaped 39 c []) 39 b character_opening
    (e ∙ ap (λ n. begun ++ escaped 39 c n) chars-nil) (character_literal c h)

pub byte_whole : (begun out : List ℕ) (n : ℕ) → n < 256 → begun ≡ chars (codes "b'")
    → out ≡ begun ++ escaped_byte 39 n [] → IsLiteralText (out ++ 39 ∷ [])
byte_whole begun out n h b e =
    whole begun out (codes "b'") (escaped_byte 39 n []) 39 b byte_opening e (byte_literal n h)

-- each number of a slice of bytes is a byte
pub are_bytes : (bs : List ℕ) → ((i : ℕ) → slice_index bs i < 256) → AreBytes bs
are_bytes [] h = tt
are_bytes (b ∷ bs) h = (h zero, are_bytes bs (λ i. h (suc i)))

pub byte_string_whole : (begun out bs : List ℕ) → AreBytes bs
    → begun ≡ chars (codes "b\"") → out ≡ begun ++ escaped_bytes 34 bs → IsLiteralText (out ++ 34 ∷ [])
byte_string_whole begun out bs h b e =
    whole begun out (codes "b\"") (escaped_bytes 34 bs) 34 b byte_string_opening e (byte_string_literal bs h)

pub c_string_whole : (begun out bs : List ℕ) → AreBytes bs → has_zero bs ≡ false
    → begun ≡ chars (codes "c\"") → ((inside : List ℕ) × AreWritten bs inside × (out ≡ begun ++ inside))
    → IsLiteralText (out ++ 34 ∷ [])
c_string_whole begun out bs h z b (inside, written, e) =
    let is : IsCString bs (codes "c\"" ++ inside ++ codes "\"") =
    record { inside = inside; written = written; quoted = refl } in
    whole begun out (codes "c\"") inside 34 b c_string_opening e (c_string_literal bs _ h z is)
