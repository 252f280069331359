-- Each token of a text is a leaf.
use Rattle.std.proofs.Common.{◌≡◌, ℕ, List, [], ◌∷◌, ◌++◌, length, drop, refl, sym, ap, ◌∙◌, subst, inl}
use Rattle.std.specs.Prelude.{true, ◌-◌, codes}
use Rattle.std.proofs.Math.Utf8.{scalars}
use Rattle.unicode_ident.proofs.Computing.{unicode_ident}
use Rattle.rust_map.proofs.ByteLemmas.{scalars-drop, scalars-take}
use Rattle.rust_leaf.specs.Mark.{is_mark as is_punctuation}
use Rattle.rust_lex.specs.Chars.{is_first, is_next}
use Rattle.rust_lex.specs.declared.piece.DocKind.{DocKind}
use Rattle.rust_lex.specs.declared.piece.DocKind.TheVariants as doc
use Rattle.rust_lex.specs.declared.piece.PieceKind.{PieceKind}
use Rattle.rust_lex.specs.declared.piece.PieceKind.TheVariants.{FrontMark, White, Comment, Doc, Open, Close, Mark}
use Rattle.rust_lex.specs.declared.piece.PieceKind.TheVariants.{Ident, Literal}
use Rattle.rust_lex.specs.Quoted.{opener_of}
use Rattle.rust_lex.specs.Piece.{Piece, Fits, FitsFront, IsIdent}
use Rattle.rust_lex.specs.Cover.{onto, AreFit, AreFitFront}
use Rattle.proc_macro2.specs.Token.{Token}
use Rattle.proc_macro2.specs.Pieces.{doc_text, doc_marks, doc_group, head}
use Rattle.proc_macro2.proofs.Followed.{tokens_before}
use Rattle.proc_macro2.specs.Leaf.{AreLeaves}
use Rattle.laws_lexer.specs.Read.{IsReadAs}
use Rattle.rust_lex.proofs.Alone.{ident_calm, literal_calm}
use Rattle.proc_macro2.proofs.Characters.{characters_back, characters_front}
use Rattle.proc_macro2.proofs.Puts.{mark_of}
use Rattle.rust_leaf.proofs.WrittenLiterals.{string_literal}
use Rattle.laws_lexer.proofs.Plain.{plain_of, cover_tokens}

-- the attribute of a doc
doc_scalars : (kind : DocKind) (cs : List ℕ) → scalars cs ≡ true → scalars (doc_text kind cs) ≡ true
doc_scalars doc.OuterLine cs h = scalars-drop 3 cs h
doc_scalars doc.InnerLine cs h = scalars-drop 3 cs h
doc_scalars doc.OuterBlock cs h = scalars-take (length cs - 5) (drop 3 cs) (scalars-drop 3 cs h)
doc_scalars doc.InnerBlock cs h = scalars-take (length cs - 5) (drop 3 cs) (scalars-drop 3 cs h)

doc-word : IsIdent (codes "doc") []
unfolding is_first is_next opener_of unicode_ident
doc-word = (refl, inl ((refl, refl), refl))

doc_leaves : (kind : DocKind) (text : List ℕ) (ts : List Token) → scalars text ≡ true → AreLeaves ts →
    AreLeaves ((doc_marks kind ++ doc_group text) ++ ts)
unfolding is_punctuation
doc_leaves doc.OuterLine text ts h a = (refl, (tt, (doc-word, (refl, (string_literal text h, (tt, a))))))
doc_leaves doc.InnerLine text ts h a = (refl, (refl, (tt, (doc-word, (refl, (string_literal text h, (tt, a)))))))
doc_leaves doc.OuterBlock text ts h a = (refl, (tt, (doc-word, (refl, (string_literal text h, (tt, a))))))
doc_leaves doc.InnerBlock text ts h a = (refl, (refl, (tt, (doc-word, (refl, (string_literal text h, (tt, a)))))))

with_front : (rest : List ℕ) (ts : List Token) → AreLeaves ts → (k : PieceKind) (cs : List ℕ) → scalars cs ≡ true →
    Fits k cs rest → AreLeaves (tokens_before k cs rest ++ ts)
with_front rest ts a FrontMark cs s h = a
with_front rest ts a White cs s h = a
with_front rest ts a Comment cs s h = a
with_front rest ts a (Doc kind) cs s h = doc_leaves kind (doc_text kind cs) ts (doc_scalars kind cs s) a
with_front rest ts a (Open d) cs s h = (tt, a)
with_front rest ts a (Close d) cs s h = (tt, a)
with_front rest ts a Mark cs s (c, e, m) = (ap (λ x. is_punctuation (head x)) e ∙ mark_of c rest m, a)
with_front rest ts a Ident cs s h = (ident_calm cs rest [] h tt, a)
with_front rest ts a (Literal kind) cs s h = ((kind, literal_calm kind cs rest [] h tt), a)

read_leaves : (ps : List Piece) → scalars (onto ps []) ≡ true → AreFit ps [] → AreLeaves (plain_of ps [])
read_leaves [] s f = tt
read_leaves (p ∷ ps) s f =
    with_front (onto ps []) (plain_of ps [])
    (read_leaves ps (characters_back p.chars (onto ps []) s) f.1) p.kind p.chars
    (characters_front p.chars (onto ps []) s) f.0

front_leaves : (ps : List Piece) → scalars (onto ps []) ≡ true → AreFitFront ps [] → AreLeaves (plain_of ps [])
front_leaves [] s f = tt
front_leaves (p ∷ ps) s f = at_front p.kind p.chars (characters_front p.chars (onto ps []) s) f.0
  where
    others : AreLeaves (plain_of ps [])
    others = read_leaves ps (characters_back p.chars (onto ps []) s) f.1

    at_front : (k : PieceKind) (cs : List ℕ) → scalars cs ≡ true → FitsFront k cs (onto ps []) →
        AreLeaves (tokens_before k cs (onto ps []) ++ plain_of ps [])
    at_front FrontMark cs t h = others
    at_front White cs t h = others
    at_front Comment cs t h = others
    at_front (Doc kind) cs t h = with_front (onto ps []) (plain_of ps []) others (Doc kind) cs t h
    at_front (Open d) cs t h = (tt, others)
    at_front (Close d) cs t h = (tt, others)
    at_front Mark cs t h = with_front (onto ps []) (plain_of ps []) others Mark cs t h
    at_front Ident cs t h = with_front (onto ps []) (plain_of ps []) others Ident cs t h
    at_front (Literal kind) cs t h = with_front (onto ps []) (plain_of ps []) others (Literal kind) cs t h

pub are_leaves : (text : List ℕ) (ts : List Token) → scalars text ≡ true → IsReadAs text ts → AreLeaves ts
are_leaves text ts s r =
    subst AreLeaves (sym (cover_tokens 0 text r.pieces r.cover) ∙ r.tokens_are)
    (front_leaves r.pieces (ap scalars (sym r.cover.joined) ∙ s) r.cover.fit)
