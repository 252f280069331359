-- The text of tokens that stand behind others.
use Rattle.std.proofs.Common.{◌≡◌, ◌∙◌, ℕ, zero, suc, ◌+◌, ◌<◌, List, [], ◌∷◌, ◌++◌, length, map, take, refl, sym, ap}
use Rattle.std.proofs.Common.{add-one, append_assoc, arith, get_or, subst}
use Rattle.std.proofs.lemmas.List.{append-nil}
use Rattle.std.specs.Prelude.{Bool, not, ◌&&◌, ◌||◌, Option, Some, None}
use Rattle.proc_macro2.specs.Printed as printed
use Rattle.proc_macro2.specs.Token.{Token}
use Rattle.rust_leaf.specs.Leaf.{text_of}
use Rattle.writer_print.specs.Pieces.{piece_token}
use Rattle.writer_print.specs.Sheets.{IsEdge, Shows, space_at}
use Rattle.writer_print.specs.declared.piece.Piece.{Piece}
use Rattle.writer_print.specs.declared.sheet.Edge.{Edge}
use Rattle.writer_print.specs.declared.sheet.Sheet.{Sheet}

-- four texts, one behind the other
nest : (a b c d : List ℕ) → a ++ (b ++ (c ++ d)) ≡ (a ++ (b ++ c)) ++ d
nest a b c d = sym (append_assoc a (b ++ c) d ∙ ap (λ x. a ++ x) (append_assoc b c d))

-- the text of tokens is that of all but the last, the space in front of that, and its own
text_behind : (us : List Token) (t u : Token)
    → printed.text ((us ++ t ∷ []) ++ u ∷ [])
    ≡ printed.text (us ++ t ∷ []) ++ (printed.space (printed.is_apart t u) ++ printed.shown u)
text_behind [] t u = refl
text_behind (w ∷ []) t u =
    nest (printed.shown w) (printed.space (printed.is_apart w t)) (printed.shown t)
    (printed.space (printed.is_apart t u) ++ printed.shown u)
text_behind (w ∷ x ∷ xs) t u =
    ap (λ y. printed.shown w ++ (printed.space (printed.is_apart w x) ++ y)) (text_behind (x ∷ xs) t u)
    ∙ nest (printed.shown w) (printed.space (printed.is_apart w x)) (printed.text (x ∷ xs ++ t ∷ []))
    (printed.space (printed.is_apart t u) ++ printed.shown u)

-- a text with one token more
text_more : (edge : Option Edge) (before after : List ℕ) (ts : List Token) (u : Token)
    → after ≡ (before ++ space_at edge u) ++ printed.shown u → before ≡ printed.text ts → IsEdge edge ts
    → after ≡ printed.text (ts ++ u ∷ [])
text_more None before after ts u a b i =
    a ∙ ap (λ x. (x ++ []) ++ printed.shown u) (b ∙ ap printed.text i) ∙ sym (ap (λ x. printed.text (x ++ u ∷ [])) i)
text_more (Some e) before after ts u a b (us, t, s, o, h) =
    let apart : Bool → Bool → Bool =
    λ p q. (p || printed.closes_brace u) || (not q && not (printed.is_hugged u)) in
    a ∙ ap (λ x. (x ++ printed.space (apart e.opens_brace e.hugs)) ++ printed.shown u) (b ∙ ap printed.text s)
    ∙ ap (λ p. (printed.text (us ++ t ∷ []) ++ printed.space (apart p e.hugs)) ++ printed.shown u) o
    ∙ ap (λ q. (printed.text (us ++ t ∷ []) ++ printed.space (apart (printed.opens_brace t) q)) ++ printed.shown u) h
    ∙ append_assoc (printed.text (us ++ t ∷ [])) (printed.space (printed.is_apart t u)) (printed.shown u)
    ∙ sym (text_behind us t u) ∙ sym (ap (λ x. printed.text (x ++ u ∷ [])) s)

-- a sheet with one token more
pub token_more : (old new : Sheet) (between : List ℕ) (t : Token) (e : Edge)
    → between ≡ text_of old.text ++ space_at old.edge t → text_of new.text ≡ between ++ printed.shown t
    → new.edge ≡ Some e → e.opens_brace ≡ printed.opens_brace t → e.hugs ≡ printed.hugs t → (ts : List Token)
    → Shows old ts → Shows new (ts ++ t ∷ [])
token_more old new between t e b n k o h ts s = record {
  text = text_more old.edge (text_of old.text) (text_of new.text) ts t (n ∙ ap (λ x. x ++ printed.shown t) b) s.text
      s.edge;
  edge = subst (λ edge. IsEdge edge (ts ++ t ∷ [])) (sym k) (ts, t, refl, o, h);
}

-- the tokens of pieces, with one more
taken : (ps : List Piece) (i : ℕ) (d : Piece) → i < length ps
    → map piece_token (take (suc i) ps) ≡ map piece_token (take i ps) ++ piece_token (get_or ps i d) ∷ []
taken [] i d l = let n : ⊥ = omega (arith, l) in absurd n
taken (p ∷ ps) zero d l = refl
taken (p ∷ ps) (suc i) d l = ap (λ ts. piece_token p ∷ ts) (taken ps i d (omega (arith, l)))

pub put_none : (s : Sheet) (ts : List Token) → Shows s ts → Shows s (ts ++ [])
put_none s ts h = subst (Shows s) (sym (append-nil ts)) h

pub put_more : (old between new : Sheet) (ps : List Piece) (i : ℕ) (p : Piece) → i < length ps → p ≡ get_or ps i p
    → ((ts : List Token) → Shows old ts → Shows between (ts ++ map piece_token (take i ps)))
    → ((ts : List Token) → Shows between ts → Shows new (ts ++ piece_token p ∷ [])) → (ts : List Token) → Shows old ts
    → Shows new (ts ++ map piece_token (take (i + 1) ps))
put_more old between new ps i p l e f g ts s =
    let front : List Token = map piece_token (take i ps) in
    let whole : map piece_token (take (i + 1) ps) ≡ front ++ piece_token p ∷ [] =
    ap (λ k. map piece_token (take k ps)) (add-one i) ∙ taken ps i p l
    ∙ ap (λ q. front ++ piece_token q ∷ []) (sym e) in
    subst (Shows new) (append_assoc ts front (piece_token p ∷ []) ∙ ap (λ us. ts ++ us) (sym whole))
    (g (ts ++ front) (f ts s))
