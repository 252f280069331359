-- What pieces are, for the tokens that they become.
use Rattle.std.proofs.Common.{◌≡◌, ℕ, zero, suc, ◌<◌, arith, List, [], ◌∷◌, length, refl, sym, ◌∙◌, subst, ⊎_elim}
use Rattle.std.proofs.Common.{inl, inr}
use Rattle.std.specs.Prelude.{true, ◌==◌, ◌⊎◌}
use Rattle.std.specs.Str.{chars}
use Rattle.std.proofs.lemmas.Bool.{and_parts, or_cases, or_left, eqb-true}
use Rattle.std.proofs.lemmas.List.Folds.{list_any-append}
use Rattle.std.proofs.lemmas.Str.{chars-nil}
use Rattle.rust_leaf.specs.Identifier.{is_ident_text}
use Rattle.rust_leaf.specs.Mark as leaf
use Rattle.rust_leaf.proofs.IdentTexts.{ident_text_is}
use Rattle.rust_lex.specs.Chars.{is_mark_but_tick, marks_but_tick}
use Rattle.rust_lex.specs.Piece.{Fits, FitsFront, FitsAt, IsIdent, begins_mark}
use Rattle.rust_lex.specs.Word.{begins_lifetime}
use Rattle.rust_lex.proofs.Alone.{ident_calm, literal_calm}
use Rattle.rust_lex.specs.declared.piece.PieceKind.{PieceKind}
use Rattle.rust_lex.specs.declared.piece.PieceKind.TheVariants as piece
use Rattle.proc_macro2.specs.Built.{IsReady}
use Rattle.proc_macro2.proofs.Docs.{doc_long, doc_closed}

pub some_bytes : (bytes : List ℕ) (c : ℕ) (cs : List ℕ) → chars bytes ≡ c ∷ cs → 0 < length bytes
some_bytes [] c cs e = let n : [] ≡ c ∷ cs = sym chars-nil ∙ e in cc
some_bytes (b ∷ bs) c cs e = omega arith

-- marks
lex_mark : (c : ℕ) → is_mark_but_tick c ≡ true → leaf.is_mark c ≡ true
unfolding is_mark_but_tick leaf.is_mark
lex_mark c h = list_any-append (λ d. d == c) marks_but_tick (39 ∷ []) ∙ or_left _ _ h

pub mark_of : (c : ℕ) (rest : List ℕ) → begins_mark (c ∷ rest) ≡ true → leaf.is_mark c ≡ true
unfolding leaf.is_mark
mark_of c rest h =
    ⊎_elim
    (λ m. lex_mark c (and_parts (is_mark_but_tick c) _ m).0)
    (λ q. rw (eqb-true c 39 (and_parts (c == 39) (begins_lifetime rest) q).0) refl)
    (or_cases _ _ h)

ident_ready : (cs rest : List ℕ) → IsIdent cs rest → is_ident_text cs ≡ true
ident_ready cs rest h = (ident_text_is cs).1 (ident_calm cs rest [] h tt)

ready : (k : PieceKind) (cs rest : List ℕ) → Fits k cs rest → IsReady k cs
ready piece.FrontMark cs rest h = tt
ready piece.White cs rest h = tt
ready piece.Comment cs rest h = tt
ready (piece.Doc kind) cs rest h = (doc_long kind cs rest h, doc_closed kind cs rest h)
ready (piece.Open d) cs rest h = tt
ready (piece.Close d) cs rest h = tt
ready piece.Mark cs rest (c, e, m) = (c, e, mark_of c rest m)
ready piece.Ident cs rest h = ident_ready cs rest h
ready (piece.Literal kind) cs rest h = literal_calm kind cs rest [] h tt

-- a piece at a text's front is the front mark, or a piece within a text
pub front_cases : (k : PieceKind) (cs rest : List ℕ) → FitsFront k cs rest → (k ≡ piece.FrontMark) ⊎ Fits k cs rest
front_cases piece.FrontMark cs rest h = inl refl
front_cases piece.White cs rest h = inr h
front_cases piece.Comment cs rest h = inr h
front_cases (piece.Doc kind) cs rest h = inr h
front_cases (piece.Open d) cs rest h = inr h
front_cases (piece.Close d) cs rest h = inr h
front_cases piece.Mark cs rest h = inr h
front_cases piece.Ident cs rest h = inr h
front_cases (piece.Literal kind) cs rest h = inr h

pub ready_at : (at : ℕ) (k : PieceKind) (cs rest : List ℕ) → FitsAt at k cs rest → IsReady k cs
ready_at zero k cs rest h =
    ⊎_elim (λ e. subst (λ x. IsReady x cs) (sym e) tt) (λ f. ready k cs rest f) (front_cases k cs rest h)
ready_at (suc n) k cs rest h = ready k cs rest h
