-- Pieces one behind the other: their text, their tokens, and the groups that are open behind them.
use Rattle.std.proofs.Common.{◌≡◌, ℕ, ◌+◌, arith, List, [], ◌∷◌, ◌++◌, refl, sym, ap, ap₂, ◌∙◌, length}
use Rattle.std.proofs.Common.{append_assoc, length-append}
use Rattle.std.specs.Prelude.{Option, Some, None, option_and_then}
use Rattle.std.proofs.lemmas.List.{append-nil}
use Rattle.rust_lex.specs.Piece.{Piece}
use Rattle.rust_lex.specs.Cover.{onto}
use Rattle.proc_macro2.specs.Token.{Spanned}
use Rattle.proc_macro2.specs.Pieces.{edged_at, span_at}
use Rattle.proc_macro2.proofs.Followed.{tokens_before, tokens_onto}
use Rattle.proc_macro2.specs.Forest.{Opening, openings, open_behind, count}

pub onto_append : (ps qs : List Piece) (rest : List ℕ) → onto (ps ++ qs) rest ≡ onto ps (onto qs rest)
onto_append [] qs rest = refl
onto_append (p ∷ ps) qs rest = ap (λ r. p.chars ++ r) (onto_append ps qs rest)

-- the characters of the pieces, and then the rest
pub onto_rest : (ps : List Piece) (rest : List ℕ) → onto ps rest ≡ onto ps [] ++ rest
onto_rest [] rest = refl
onto_rest (p ∷ ps) rest = ap (λ r. p.chars ++ r) (onto_rest ps rest) ∙ sym (append_assoc p.chars (onto ps []) rest)

pub count_more : (ps : List Piece) (p : Piece) → count (ps ++ p ∷ []) ≡ count ps + length p.chars
count_more ps p = ap length
    (onto_append ps (p ∷ []) [] ∙ onto_rest ps (p.chars ++ []) ∙ ap (λ x. onto ps [] ++ x) (append-nil p.chars))
    ∙ length-append (onto ps []) p.chars

abbrev pub tokens_at : ℕ → Piece → List ℕ → List Spanned
tokens_at at p rest = edged_at (span_at at (length p.chars)) (tokens_before p.kind p.chars rest)

pub tokens_append : (at : ℕ) (ps qs : List Piece) (rest : List ℕ)
    → tokens_onto at (ps ++ qs) rest ≡ tokens_onto at ps (onto qs rest) ++ tokens_onto (at + count ps) qs rest
tokens_append at [] qs rest = let e : at ≡ at + 0 = omega arith in ap (λ m. tokens_onto m qs rest) e
tokens_append at (p ∷ ps) qs rest =
    let e : (at + length p.chars) + count ps ≡ at + count (p ∷ ps) =
    omega (arith, length-append p.chars (onto ps [])) in
    ap₂ (λ r ts. tokens_at at p r ++ ts) (onto_append ps qs rest)
    (tokens_append (at + length p.chars) ps qs rest
    ∙ ap (λ m. tokens_onto (at + length p.chars) ps (onto qs rest) ++ tokens_onto m qs rest) e)
    ∙ sym (append_assoc (tokens_at at p (onto ps (onto qs rest))) (tokens_onto (at + length p.chars) ps (onto qs rest))
    (tokens_onto (at + count (p ∷ ps)) qs rest))

-- the tokens of pieces and one more
pub tokens_more : (at : ℕ) (ps : List Piece) (p : Piece) (text rest : List ℕ) → text ≡ p.chars ++ rest
    → tokens_onto at (ps ++ p ∷ []) rest ≡ tokens_onto at ps text ++ tokens_at (at + count ps) p rest
tokens_more at ps p text rest e =
    tokens_append at ps (p ∷ []) rest
    ∙ ap₂ (λ x y. tokens_onto at ps x ++ y) (sym e) (append-nil (tokens_at (at + count ps) p rest))

-- behind some groups, or where a mark closed nothing
abbrev behind : ℕ → List Piece → Option (List Opening) → Option (List Opening)
behind n ps o = option_and_then (λ os. openings os n ps) o

pub openings_append : (os hs : List Opening) (n : ℕ) (ps qs : List Piece) → openings os n ps ≡ Some hs
    → openings os n (ps ++ qs) ≡ openings hs (n + count ps) qs
openings_append os hs n [] qs e = let same : os ≡ hs = cc in let m : n ≡ n + 0 =
    omega arith in ap₂ (λ x k. openings x k qs) same m
openings_append os hs n (p ∷ ps) qs e =
    let m : (n + length p.chars) + count ps ≡ n + count (p ∷ ps) = omega (arith, length-append p.chars (onto ps [])) in
    after (λ ks h. openings_append ks hs (n + length p.chars) ps qs h) (open_behind os p.kind n) e
    ∙ ap (λ k. openings hs k qs) m
  where
    after : ((ks : List Opening) → openings ks (n + length p.chars) ps ≡ Some hs
        → openings ks (n + length p.chars) (ps ++ qs) ≡ openings hs ((n + length p.chars) + count ps) qs)
        → (o : Option (List Opening)) →
        behind (n + length p.chars) ps o ≡ Some hs
        → behind (n + length p.chars) (ps ++ qs) o ≡ openings hs ((n + length p.chars) + count ps) qs
    after more None q = cc
    after more (Some ks) q = more ks q

-- the groups that are open behind pieces and one more
pub openings_more : (os hs gs : List Opening) (ps : List Piece) (p : Piece) → openings os 0 ps ≡ Some hs
    → open_behind hs p.kind (count ps) ≡ Some gs → openings os 0 (ps ++ p ∷ []) ≡ Some gs
openings_more os hs gs ps p e g =
    let z : 0 + count ps ≡ count ps = omega arith in
    openings_append os hs 0 ps (p ∷ []) e ∙ ap (λ k. openings hs k (p ∷ [])) z
    ∙ ap (λ o. behind (count ps + length p.chars) [] o) g
