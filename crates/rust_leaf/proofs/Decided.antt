-- Each text is that of a literal, or is that of none.
use Rattle.std.proofs.Common.{◌≡◌, ℕ, List, [], ◌∷◌, refl, sym, ap, ◌∙◌, subst, inl, inr, ⊎_elim}
use Rattle.std.proofs.lemmas.Bool.{cases_Bool, eqb-true}
use Rattle.std.proofs.lemmas.Grind.{not_there}
use Rattle.std.proofs.lemmas.List.{append-nil}
use Rattle.std.specs.Prelude.{Bool, true, false, ◌==◌, ◌⊎◌}
use Rattle.rust_leaf.specs.Minus.{minus}
use Rattle.rust_leaf.specs.Parse.{IsLiteralText, IsNegative, is_number_kind}
use Rattle.rust_lex.specs.Piece.{IsLiteral}
use Rattle.rust_lex.specs.Scan.{Scanned, Nowhere, Ends, scan}
use Rattle.rust_lex.specs.declared.piece.LiteralKind.{LiteralKind}
use Rattle.rust_lex.specs.declared.piece.PieceKind.TheVariants.{FrontMark, White, Comment, Doc, Open, Close, Mark}
use Rattle.rust_lex.specs.declared.piece.PieceKind.TheVariants.{Ident, Literal}
use Rattle.rust_lex.proofs.Complete.{complete}
use Rattle.rust_lex.proofs.Sound.{sound}

-- what the scanner finds where the text is a literal
scanned : (kind : LiteralKind) (cs : List ℕ) → IsLiteral kind cs [] → scan cs ≡ Ends (Literal kind) []
scanned kind cs l = ap scan (sym (append-nil cs)) ∙ complete (Literal kind) cs [] l

-- what it finds is one
found : (kind : LiteralKind) (cs : List ℕ) → scan cs ≡ Ends (Literal kind) [] → IsLiteral kind cs []
found kind cs e =
    let f = sound cs [] (Literal kind) e in
    subst (λ ds. IsLiteral kind ds []) (sym (f.joined ∙ append-nil f.chars)) f.fits

-- a text is a literal of one kind, or is none
abbrev Known : List ℕ → Type 0
Known cs = ((kind : LiteralKind) × IsLiteral kind cs []
    × ((other : LiteralKind) → IsLiteral other cs [] → other ≡ kind))
    ⊎ ((kind : LiteralKind) → IsLiteral kind cs [] → ⊥)

known : (cs : List ℕ) → Known cs
known cs = by (scan cs) refl
  where
    none : (s : Scanned) → scan cs ≡ s → ((kind : LiteralKind) → Ends (Literal kind) [] ≡ s → ⊥) → Known cs
    none s e n = inr (λ kind l. n kind (sym (scanned kind cs l) ∙ e))

    by : (s : Scanned) → scan cs ≡ s → Known cs
    by Nowhere e = none Nowhere e (λ kind h. cc)
    by (Ends (Literal k) []) e = inl (k, found k cs e, λ other l. (let same = sym (scanned other cs l) ∙ e in cc))
    by (Ends (Literal k) (c ∷ rest)) e = none _ e (λ kind h. cc)
    by (Ends FrontMark rest) e = none _ e (λ kind h. cc)
    by (Ends White rest) e = none _ e (λ kind h. cc)
    by (Ends Comment rest) e = none _ e (λ kind h. cc)
    by (Ends (Doc d) rest) e = none _ e (λ kind h. cc)
    by (Ends (Open d) rest) e = none _ e (λ kind h. cc)
    by (Ends (Close d) rest) e = none _ e (λ kind h. cc)
    by (Ends Mark rest) e = none _ e (λ kind h. cc)
    by (Ends Ident rest) e = none _ e (λ kind h. cc)

negative_or_not : (cs : List ℕ) → IsNegative cs ⊎ (IsNegative cs → ⊥)
negative_or_not [] = inr (λ (k, number, e, l, n). cc)
negative_or_not (c ∷ cs) =
    ⊎_elim
    (λ m. ⊎_elim (λ (k, l, only). by_kind m k l only (is_number_kind k) refl)
    (λ no. inr (λ (k, number, e, l, n). no k (rest number k e l))) (known cs))
    (λ m. inr (λ (k, number, e, l, n).
    (let same : c ≡ minus = cc in let yes : (c == minus) ≡ true = ap (λ d. d == minus) same in cc)))
    (cases_Bool (c == minus))
  where
    rest : (number : List ℕ) (k : LiteralKind) → c ∷ cs ≡ minus ∷ number → IsLiteral k number [] → IsLiteral k cs []
    rest number k e l = let same : number ≡ cs = cc in subst (λ ds. IsLiteral k ds []) same l

    by_kind : (c == minus) ≡ true → (k : LiteralKind) → IsLiteral k cs []
        → ((other : LiteralKind) → IsLiteral other cs [] → other ≡ k) → (b : Bool) → is_number_kind k ≡ b
        → IsNegative (c ∷ cs) ⊎ (IsNegative (c ∷ cs) → ⊥)
    by_kind m k l only true n = inl (k, cs, ap (λ d. d ∷ cs) (eqb-true c minus m), l, n)
    by_kind m k l only false n =
        inr (λ (other, number, e, o, t).
        (let same : other ≡ k = only other (rest number other e o) in let f : is_number_kind other
        ≡ false = ap is_number_kind same ∙ n in cc))

literal_or_not : (cs : List ℕ) → IsLiteralText cs ⊎ (IsLiteralText cs → ⊥)
literal_or_not cs =
    ⊎_elim
    (λ (k, l, only). inl (inl (k, l)))
    (λ no. ⊎_elim (λ m. inl (inr m)) (λ n. inr (⊎_elim (λ (k, l). no k l) n)) (negative_or_not cs))
    (known cs)

-- a text of which it is known that it is a literal's is one
pub literal_had : (cs : List ℕ) → ∥ IsLiteralText cs ∥₁ → IsLiteralText cs
literal_had cs t = ⊎_elim (λ l. l) (λ n. absurd (not_there t n)) (literal_or_not cs)
