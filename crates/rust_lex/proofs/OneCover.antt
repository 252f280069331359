-- A text has at most one cover.
use Rattle.std.proofs.Common.{◌≡◌, ℕ, zero, suc, List, [], ◌∷◌, ◌++◌, refl, sym, ap, ap₂, ◌∙◌}
use Rattle.rust_lex.specs.Piece.{PieceKind, Piece, FitsAt}
use Rattle.rust_lex.specs.Cover.{onto, AreFit, AreFitFront, IsCover}
use Rattle.rust_lex.specs.Scan.{Nowhere, Ends, scan_at}
use Rattle.std.proofs.lemmas.List.{append_cancel_right}
use Rattle.rust_lex.proofs.Complete.{complete_at}

abbrev piece : PieceKind → List ℕ → Piece
piece k cs = record { kind = k; chars = cs }

-- two pieces at one place of a text are the same
pub one_piece : (at : ℕ) (p q : Piece) (r s : List ℕ) → FitsAt at p.kind p.chars r → FitsAt at q.kind q.chars s
    → p.chars ++ r ≡ q.chars ++ s → (p ≡ q) × (r ≡ s)
one_piece at p q r s f g e =
    let both : Ends p.kind r ≡ Ends q.kind s =
    sym (complete_at at p.kind p.chars r f) ∙ ap (scan_at at) e ∙ complete_at at q.kind q.chars s g in
    let kinds : p.kind ≡ q.kind = cc in
    let rests : r ≡ s = cc in
    let chars : p.chars ≡ q.chars = append_cancel_right p.chars q.chars s (ap (λ x. p.chars ++ x) (sym rests) ∙ e) in
    (ap₂ piece kinds chars, rests)

-- no piece stands at the end of a text
pub nothing_at : (at : ℕ) → scan_at at [] ≡ Nowhere
nothing_at zero = refl
nothing_at (suc n) = refl

-- and none is empty
pub none_empty : (at : ℕ) (q : Piece) (rest : List ℕ) → FitsAt at q.kind q.chars rest → [] ≡ q.chars ++ rest → ⊥
none_empty at q rest f e =
    let t : Nowhere ≡ Ends q.kind rest =
    sym (nothing_at at) ∙ ap (scan_at at) e ∙ complete_at at q.kind q.chars rest f in
    cc

pub one_list : (ps qs : List Piece) → AreFit ps [] → AreFit qs [] → onto ps [] ≡ onto qs [] → ps ≡ qs
one_list [] [] f g e = refl
one_list [] (q ∷ qs) f g e = absurd (none_empty 1 q (onto qs []) g.0 e)
one_list (p ∷ ps) [] f g e = absurd (none_empty 1 p (onto ps []) f.0 (sym e))
one_list (p ∷ ps) (q ∷ qs) f g e =
    let (same, rests) = one_piece 1 p q _ _ f.0 g.0 e in
    ap₂ (λ x xs. x ∷ xs) same (one_list ps qs f.1 g.1 rests)

one_front : (ps qs : List Piece) → AreFitFront ps [] → AreFitFront qs [] → onto ps [] ≡ onto qs [] → ps ≡ qs
one_front [] [] f g e = refl
one_front [] (q ∷ qs) f g e = absurd (none_empty 0 q (onto qs []) g.0 e)
one_front (p ∷ ps) [] f g e = absurd (none_empty 0 p (onto ps []) f.0 (sym e))
one_front (p ∷ ps) (q ∷ qs) f g e =
    let (same, rests) = one_piece 0 p q _ _ f.0 g.0 e in
    ap₂ (λ x xs. x ∷ xs) same (one_list ps qs f.1 g.1 rests)

pub one_cover : (text : List ℕ) (ps qs : List Piece) → IsCover text ps → IsCover text qs → ps ≡ qs
one_cover text ps qs f g = one_front ps qs f.fit g.fit (sym f.joined ∙ g.joined)
