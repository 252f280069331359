-- Texts are the same where their characters are.
use Rattle.std.proofs.Common.{◌≡◌, ℕ, List, refl, sym, ◌∙◌}
use Rattle.std.specs.Prelude.{◌↔◌, Bool, IsTrue, true, false, codes}
use Rattle.std.specs.Str.{bytes_eq, chars, IsUtf8}
use Rattle.std.proofs.lemmas.Slice.Eq.{bytes_eq-Decides}
use Rattle.std.proofs.lemmas.Str.{chars-IsAscii}
use Rattle.rust_leaf.specs.Leaf.{ident_bytes, ident_text}
use Rattle.rust_leaf.specs.declared.ident.Ident.{Ident}
use Rattle.rust_leaf.proofs.Texts.{ascii_word, bytes_eq-same, leaf_utf8}

pub both_ways : (a b : Bool) → (a ≡ true → b ≡ true) → (b ≡ true → a ≡ true) → a ≡ b
both_ways true b f g = sym (f refl)
both_ways false true f g = g refl
both_ways false false f g = refl

pub same_texts : (xs ys cs ds : List ℕ) → IsUtf8 xs → IsUtf8 ys → chars xs ≡ cs → chars ys ≡ ds
    → bytes_eq xs ys ≡ bytes_eq cs ds
same_texts xs ys cs ds u v e f =
    both_ways (bytes_eq xs ys) (bytes_eq cs ds)
    (λ h. (bytes_eq-Decides cs ds).1 (sym e ∙ (bytes_eq-same xs ys u v).0 h ∙ f))
    (λ h. (bytes_eq-same xs ys u v).1 (e ∙ (bytes_eq-Decides cs ds).0 h ∙ sym f))

pub true_chars : chars (codes "true") ≡ codes "true"
true_chars = chars-IsAscii (codes "true") (ascii_word (codes "true") refl)

pub false_chars : chars (codes "false") ≡ codes "false"
false_chars = chars-IsAscii (codes "false") (ascii_word (codes "false") refl)

pub by_text : (xs ys : List ℕ) → IsTrue (bytes_eq xs ys) ↔ (xs ≡ ys)
by_text xs ys = bytes_eq-Decides xs ys

pub same_names : (i j : Ident) → IsTrue (bytes_eq (ident_bytes i) (ident_bytes j)) ↔ (ident_text i ≡ ident_text j)
same_names i j = bytes_eq-same (ident_bytes i) (ident_bytes j) (leaf_utf8 i.text) (leaf_utf8 j.text)
