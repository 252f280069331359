-- Streams in which both tokens of each group carry one span.
use Rattle.std.proofs.Common.{◌≡◌, List, [], ◌∷◌, ◌++◌, refl, sym, subst}
use Rattle.rust_map.specs.declared.span.Span.{Span}
use Rattle.proc_macro2.specs.Token.{Delimiter, Token, Opens, Closes, Ident, Literal, Punct, Spanned}
use Rattle.proc_macro2.specs.Flat.{spanned}
use Rattle.proc_macro2.specs.Forest.{ArePaired}

abbrev It : Type 0 → Type 0
It A = A

-- what is paired within some groups, and then what is paired in those around them
pub paired_append : (inner outer : List Span) (xs ys : List Spanned) → ArePaired inner xs → ArePaired outer ys
    → ArePaired (inner ++ outer) (xs ++ ys)
paired_append inner outer [] ys h k = subst (λ s. ArePaired (s ++ outer) ys) (sym h) k
paired_append inner outer (x ∷ xs) ys h k = on (λ i q. paired_append i outer xs ys q k) x.token h
  where
    on : ((i : List Span) → ArePaired i xs → ArePaired (i ++ outer) (xs ++ ys)) → (t : Token) → It (elim t [
      | Opens d ↦ ArePaired (x.span ∷ inner) xs
      | Closes d ↦ elim inner [ [] ↦ ⊥ | s ∷ ss ↦ (s ≡ x.span) × ArePaired ss xs ]
      | Ident cs ↦ ArePaired inner xs
      | Literal cs ↦ ArePaired inner xs
      | Punct c spacing ↦ ArePaired inner xs
    ]) → It (elim t [
      | Opens d ↦ ArePaired (x.span ∷ (inner ++ outer)) (xs ++ ys)
      | Closes d ↦ elim (inner ++ outer) [ [] ↦ ⊥ | s ∷ ss ↦ (s ≡ x.span) × ArePaired ss (xs ++ ys) ]
      | Ident cs ↦ ArePaired (inner ++ outer) (xs ++ ys)
      | Literal cs ↦ ArePaired (inner ++ outer) (xs ++ ys)
      | Punct c spacing ↦ ArePaired (inner ++ outer) (xs ++ ys)
    ])
    on more (Opens d) q = more (x.span ∷ inner) q
    on more (Closes d) q = closes inner q
      where
        closes : (i : List Span) → It (elim i [ [] ↦ ⊥ | s ∷ ss ↦ (s ≡ x.span) × ArePaired ss xs ])
            → It (elim (i ++ outer) [ [] ↦ ⊥ | s ∷ ss ↦ (s ≡ x.span) × ArePaired ss (xs ++ ys) ])
        closes [] p = elim p [ ]
        closes (s ∷ ss) p = (p.0, more ss p.1)
    on more (Ident cs) q = more inner q
    on more (Literal cs) q = more inner q
    on more (Punct c spacing) q = more inner q

pub paired_group : (d : Delimiter) (span : Span) (xs : List Spanned) → ArePaired [] xs
    → ArePaired [] (spanned (Opens d) span ∷ xs ++ spanned (Closes d) span ∷ [])
paired_group d span xs h = paired_append [] (span ∷ []) xs (spanned (Closes d) span ∷ []) h (refl, refl)
