-- Marks that are printed, and what they are read back as.
use Rattle.std.proofs.Common.{◌≡◌, ◌<◌, ℕ, List, [], ◌∷◌, ◌++◌, length, refl, sym, ap, ◌∙◌, subst, arith}
use Rattle.std.proofs.lemmas.Bool.{eq-eqb}
use Rattle.std.specs.Prelude.{Bool, true, ◌==◌, ◌&&◌}
use Rattle.rust_map.specs.declared.span.Span.{Span}
use Rattle.rust_leaf.specs.declared.punct.Spacing.TheVariants.{Alone}
use Rattle.proc_macro2.specs.Token.{Spanned, plain}
use Rattle.syn_kinds.specs.Stands.{marks_stand}
use Rattle.syn_kinds.specs.Values.{marks_tokens}
use Rattle.syn_peek.specs.Marks.{ReadsMarks}

-- the first and the others
abbrev pub first_place : Span → List Spanned → Span
first_place d [] = d
first_place d (t ∷ ts) = t.span

abbrev pub past_first : List Spanned → List Spanned
past_first [] = []
past_first (t ∷ ts) = ts

-- marks are read where they are printed
pub marks_read : (cs : List ℕ) (ss : List Span) (xs : List Spanned) → 0 < length cs → length ss ≡ length cs
    → ReadsMarks cs ss (marks_tokens cs ss ++ xs) xs
marks_read [] ss xs l n = absurd (omega arith)
marks_read (c ∷ cs) [] xs l n = absurd (omega arith)
marks_read (c ∷ []) (s ∷ []) xs l n = (Alone, refl)
marks_read (c ∷ []) (s ∷ r ∷ ss) xs l n = absurd (omega arith)
marks_read (c ∷ d ∷ cs) (s ∷ ss) xs l n =
    (marks_tokens (d ∷ cs) ss ++ xs, refl, marks_read (d ∷ cs) ss xs (omega arith) (omega arith))

-- and no others are
pub marks_one : (cs : List ℕ) (ss rs : List Span) (xs us : List Spanned) → length ss ≡ length cs
    → ReadsMarks cs rs (marks_tokens cs ss ++ xs) us → (rs ≡ ss) × (us ≡ xs)
marks_one [] ss rs xs us n r = absurd r
marks_one (c ∷ []) ss [] xs us n r = absurd r
marks_one (c ∷ []) ss (r ∷ q ∷ rs) xs us n h = absurd h
marks_one (c ∷ []) [] (r ∷ []) xs us n h = absurd (omega arith)
marks_one (c ∷ []) (s ∷ t ∷ ss) (r ∷ []) xs us n h = absurd (omega arith)
marks_one (c ∷ []) (s ∷ []) (r ∷ []) xs us n (spacing, e) =
    (ap (λ w. w ∷ []) (sym (ap (first_place s) e)), sym (ap past_first e))
marks_one (c ∷ d ∷ cs) ss [] xs us n h = absurd h
marks_one (c ∷ d ∷ cs) [] (r ∷ rs) xs us n h = absurd (omega arith)
marks_one (c ∷ d ∷ cs) (s ∷ ss) (r ∷ rs) xs us n (vs, e, h) =
    let more : ReadsMarks (d ∷ cs) rs (marks_tokens (d ∷ cs) ss ++ xs) us =
    subst (λ w. ReadsMarks (d ∷ cs) rs w us) (sym (ap past_first e)) h in
    let both = marks_one (d ∷ cs) ss rs xs us (omega arith) more in
    (ap (λ w. r ∷ w) both.0 ∙ ap (λ w. w ∷ ss) (sym (ap (first_place s) e)), both.1)

-- and stand there
both_true : (a b : Bool) → a ≡ true → b ≡ true → ((a && true) && b) ≡ true
both_true a b e f = ap (λ (x : Bool). (x && true) && b) e ∙ f

pub marks_are_seen : (cs : List ℕ) (ss : List Span) (xs : List Spanned) → length ss ≡ length cs
    → marks_stand cs (plain (marks_tokens cs ss ++ xs)) ≡ true
marks_are_seen [] ss xs n = refl
marks_are_seen (c ∷ cs) [] xs n = absurd (omega arith)
marks_are_seen (c ∷ []) (s ∷ ss) xs n = eq-eqb c c refl
marks_are_seen (c ∷ d ∷ cs) (s ∷ ss) xs n =
    both_true (c == c) _ (eq-eqb c c refl) (marks_are_seen (d ∷ cs) ss xs (omega arith))
