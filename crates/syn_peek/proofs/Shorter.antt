-- What is read takes tokens.
use Rattle.std.proofs.Common.{◌≡◌, ◌<◌, ℕ, List, [], ◌∷◌, length, ap, arith}
use Rattle.rust_map.specs.declared.span.Span.{Span}
use Rattle.proc_macro2.specs.Token.{Spanned}
use Rattle.syn_peek.specs.Marks.{ReadsMarks}

-- marks
pub marks_shorter : (cs : List ℕ) (spans : List Span) (ts us : List Spanned) → ReadsMarks cs spans ts us →
    length us < length ts
marks_shorter [] spans ts us r = absurd r
marks_shorter (c ∷ []) [] ts us r = absurd r
marks_shorter (c ∷ []) (s ∷ []) ts us r = omega (arith, ap (λ (x : List Spanned). length x) r.1)
marks_shorter (c ∷ []) (s ∷ t ∷ ss) ts us r = absurd r
marks_shorter (c ∷ d ∷ cs) [] ts us r = absurd r
marks_shorter (c ∷ d ∷ cs) (s ∷ ss) ts us r =
    omega (arith, ap (λ (x : List Spanned). length x) r.1, marks_shorter (d ∷ cs) ss r.0 us r.2)
