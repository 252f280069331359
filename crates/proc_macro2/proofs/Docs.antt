-- The texts of docs.
use Rattle.std.proofs.Common.{◌≡◌, ℕ, zero, suc, ◌-◌, ◌+◌, ◌≤◌, arith, List, [], ◌∷◌, ◌++◌, length, refl, sym, ap}
use Rattle.std.proofs.Common.{◌∙◌, subst, ⊎_elim, take, drop, IsTrue, codes, length-append, encode_utf8_all}
use Rattle.std.specs.Prelude.{Bool, true, ◌&&◌, ◌==◌, not, Option, Some}
use Rattle.std.specs.Str.{chars, IsUtf8, IsCharBoundary}
use Rattle.std.proofs.lemmas.Bool.{and_parts, eqb-true}
use Rattle.std.proofs.lemmas.List.{append_cancel_left, append_cancel_right, take-append-drop}
use Rattle.std.proofs.Math.Seq.{take-append_seam}
use Rattle.std.proofs.lemmas.Str.{chars-IsAscii, chars-append, encodes-chars, encodes-append}
use Rattle.std.proofs.lemmas.Str.{IsCharBoundary-from_drop, IsUtf8-from_ascii, IsUtf8-take}
use Rattle.unicode_ident.proofs.Computing.{unicode_ident}
use Rattle.rust_leaf.proofs.Texts.{ascii_word}
use Rattle.rust_leaf.specs.Identifier.{is_ident_text}
use Rattle.rust_lex.specs.Comment.{past_comment, doc_opening, IsDoc, IsDocText}
use Rattle.rust_lex.specs.declared.piece.DocKind.{DocKind}
use Rattle.rust_lex.specs.declared.piece.DocKind.TheVariants as doc
use Rattle.rust_lex.proofs.Taken.{chosen}
use Rattle.proc_macro2.specs.Pieces.{IsClosedDoc, is_block}

pub doc_word : chars (codes "doc") ≡ codes "doc"
doc_word = chars-IsAscii (codes "doc") (ascii_word (codes "doc") refl)

doc_ident : IsTrue (is_ident_text (codes "doc"))
unfolding unicode_ident
doc_ident = refl

pub doc_chars_ident : IsTrue (is_ident_text (chars (codes "doc")))
doc_chars_ident = rw doc_word doc_ident

pub ruleset words = (doc_word, doc_chars_ident)

two_more : (c d : ℕ) (cs : List ℕ) → IsClosedDoc cs → IsClosedDoc (c ∷ d ∷ cs)
two_more c d cs (front, e) = (c ∷ d ∷ front, ap (λ x. c ∷ d ∷ x) e)

one_more : (c : ℕ) (cs : List ℕ) → IsClosedDoc cs → IsClosedDoc (c ∷ cs)
one_more c cs (front, e) = (c ∷ front, ap (λ x. c ∷ x) e)

-- a comment that is closed by its last characters ends with */
comment_closed : (doc : Bool) (n : ℕ) (cs : List ℕ) → past_comment doc n cs ≡ Some [] → IsClosedDoc cs
unfolding past_comment
comment_closed doc n [] e = cc
comment_closed doc n (c ∷ []) e = cc
comment_closed doc n (c ∷ d ∷ cs) e =
    ⊎_elim
    (λ h. (elim n as (λ n. ◌≡◌ {A = Option (List ℕ)} (elim n [ zero ↦ Some cs | suc m ↦ past_comment doc m cs ])
    (Some []) → IsClosedDoc (c ∷ d ∷ cs)) [
      | zero ↦ λ q. (let same : cs
          ≡ [] = cc in let (x, y) = and_parts (c == 42) (d == 47) h.0 in
          ([], rw (eqb-true c 42 x, eqb-true d 47 y, same) refl))
      | suc m ↦ λ q. two_more c d cs (comment_closed doc m cs q)
    ]) h.1)
    (λ h. ⊎_elim
    (λ k. two_more c d cs (comment_closed doc (suc n) cs k.1))
    (λ k. ⊎_elim
    (λ l. cc)
    (λ l. one_more c (d ∷ cs) (comment_closed doc n (d ∷ cs) l.1))
    (chosen (doc && (c == 13 && not (d == 10))) _ _ _ k.1))
    (chosen (c == 47 && d == 42) _ _ _ h.1))
    (chosen (c == 42 && d == 47) _ _ _ e)

text_closed : (kind : DocKind) (text rest : List ℕ) → IsDocText kind text rest → is_block kind ≡ true → IsClosedDoc text
text_closed doc.OuterLine text rest h b = cc
text_closed doc.InnerLine text rest h b = cc
text_closed doc.OuterBlock text rest h b = comment_closed true 0 text h.1
text_closed doc.InnerBlock text rest h b = comment_closed true 0 text h

three : (kind : DocKind) (text : List ℕ)
    → (3 ≤ length (doc_opening kind ++ text)) × (drop 3 (doc_opening kind ++ text) ≡ text)
three doc.OuterLine text = (omega arith, refl)
three doc.InnerLine text = (omega arith, refl)
three doc.OuterBlock text = (omega arith, refl)
three doc.InnerBlock text = (omega arith, refl)

pub doc_long : (kind : DocKind) (cs rest : List ℕ) → IsDoc kind cs rest → 3 ≤ length cs
doc_long kind cs rest (text, e, t) = subst (λ x. 3 ≤ length x) (sym e) (three kind text).0

pub doc_closed : (kind : DocKind) (cs rest : List ℕ) → IsDoc kind cs rest → is_block kind ≡ true
    → IsClosedDoc (drop 3 cs)
doc_closed kind cs rest (text, e, t) b =
    subst IsClosedDoc (sym (ap (drop 3) e ∙ (three kind text).1)) (text_closed kind text rest t b)

-- characters that end with */ are bytes that do
pub closed_bytes : (bytes front : List ℕ) → IsUtf8 bytes → chars bytes ≡ front ++ 42 ∷ 47 ∷ []
    → bytes ≡ encode_utf8_all front ++ 42 ∷ 47 ∷ []
unfolding lib.Utf8.encode
closed_bytes bytes front u e = sym (encodes-chars bytes u) ∙ ap encode_utf8_all e ∙ encodes-append front (42 ∷ 47 ∷ [])

pub record CutsClosing (bytes : List ℕ) : Type 0 where
  pub long : 2 ≤ length bytes
  pub boundary : IsCharBoundary bytes (length bytes - 2)
  pub before : chars (take (length bytes - 2) bytes) ≡ take (length (chars bytes) - 2) (chars bytes)

closing_ascii : (ds : List ℕ) → ds ≡ 42 ∷ 47 ∷ [] → (IsUtf8 ds) × (chars ds ≡ ds)
closing_ascii ds e = rw e (
  IsUtf8-from_ascii (codes "*/") (ascii_word (codes "*/") refl),
  chars-IsAscii (codes "*/") (ascii_word (codes "*/") refl),
)

pub cuts_closing : (bytes : List ℕ) → IsUtf8 bytes → IsClosedDoc (chars bytes) → CutsClosing bytes
cuts_closing bytes u (front, e) =
    let fs = encode_utf8_all front in
    let b : bytes ≡ fs ++ 42 ∷ 47 ∷ [] = closed_bytes bytes front u e in
    let l : length bytes ≡ length fs + 2 = ap length b ∙ length-append fs (42 ∷ 47 ∷ []) in
    let n : length bytes - 2 ≡ length fs = omega arith in
    let t : take (length bytes - 2) bytes ≡ fs = ap (λ m. take m bytes) n ∙ ap (take (length fs)) b
    ∙ take-append_seam fs (42 ∷ 47 ∷ []) in
    let d : drop (length bytes - 2) bytes ≡ 42 ∷ 47 ∷ [] =
    append_cancel_left fs (drop (length bytes - 2) bytes) (42 ∷ 47 ∷ [])
    (ap (λ x. x ++ drop (length bytes - 2) bytes) (sym t) ∙ take-append-drop (length bytes - 2) bytes ∙ b) in
    let (ends, same) = closing_ascii _ d in
    let cut : IsCharBoundary bytes (length bytes - 2) =
    IsCharBoundary-from_drop bytes (length bytes - 2) (omega arith) ends in
    let split : chars bytes ≡ chars (take (length bytes - 2) bytes) ++ 42 ∷ 47 ∷ [] =
    ap chars (sym (take-append-drop (length bytes - 2) bytes))
    ∙ chars-append (take (length bytes - 2) bytes) (drop (length bytes - 2) bytes)
    (IsUtf8-take bytes (length bytes - 2) u cut)
    ∙ ap (λ x. chars (take (length bytes - 2) bytes) ++ x) (same ∙ d) in
    let is : chars (take (length bytes - 2) bytes) ≡ front =
    append_cancel_right (chars (take (length bytes - 2) bytes)) front (42 ∷ 47 ∷ []) (sym split ∙ e) in
    let m : length (chars bytes) ≡ length front + 2 = ap length e ∙ length-append front (42 ∷ 47 ∷ []) in
    let k : length (chars bytes) - 2 ≡ length front = omega arith in
    record {
      long = omega arith;
      boundary = cut;
      before = is ∙ sym (ap (λ j. take j (chars bytes)) k ∙ ap (take (length front)) e
          ∙ take-append_seam front (42 ∷ 47 ∷ []));
    }
