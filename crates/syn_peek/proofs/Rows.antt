-- The marks of a punctuation, one by one.
use Rattle.std.proofs.Common.{◌≡◌, ℕ, List, [], ◌∷◌, length, get_or, refl, ap, ◌∙◌, arith}
use Rattle.syn_kinds.specs.Table.{marks, sign}
use Rattle.syn_kinds.proofs.Marks.{marks_count, mark_at}

one_of : (xs : List ℕ) (d : ℕ) → length xs ≡ 1 → xs ≡ get_or xs 0 d ∷ []
one_of [] d h = absurd (omega arith)
one_of (a ∷ []) d h = refl
one_of (a ∷ b ∷ xs) d h = absurd (omega arith)

two_of : (xs : List ℕ) (d : ℕ) → length xs ≡ 2 → xs ≡ get_or xs 0 d ∷ get_or xs 1 d ∷ []
two_of [] d h = absurd (omega arith)
two_of (a ∷ xs) d h = ap (λ ys. a ∷ ys) (one_of xs d (omega arith))

three_of : (xs : List ℕ) (d : ℕ) → length xs ≡ 3 → xs ≡ get_or xs 0 d ∷ get_or xs 1 d ∷ get_or xs 2 d ∷ []
three_of [] d h = absurd (omega arith)
three_of (a ∷ xs) d h = ap (λ ys. a ∷ ys) (two_of xs d (omega arith))

pub marks_one : (kind : ℕ) → marks kind 1 ≡ get_or (sign kind) 0 126 ∷ []
marks_one kind = one_of (marks kind 1) 126 (marks_count kind 1) ∙ ap (λ c. c ∷ []) (mark_at kind 1 0 (omega arith))

pub marks_two : (kind : ℕ) → marks kind 2 ≡ get_or (sign kind) 0 126 ∷ get_or (sign kind) 1 126 ∷ []
marks_two kind =
    two_of (marks kind 2) 126 (marks_count kind 2)
    ∙ ap (λ c. c ∷ get_or (marks kind 2) 1 126 ∷ []) (mark_at kind 2 0 (omega arith))
    ∙ ap (λ c. get_or (sign kind) 0 126 ∷ c ∷ []) (mark_at kind 2 1 (omega arith))

pub marks_three : (kind : ℕ) →
    marks kind 3 ≡ get_or (sign kind) 0 126 ∷ get_or (sign kind) 1 126 ∷ get_or (sign kind) 2 126 ∷ []
marks_three kind =
    three_of (marks kind 3) 126 (marks_count kind 3)
    ∙ ap (λ c. c ∷ get_or (marks kind 3) 1 126 ∷ get_or (marks kind 3) 2 126 ∷ []) (mark_at kind 3 0 (omega arith))
    ∙ ap (λ c. get_or (sign kind) 0 126 ∷ c ∷ get_or (marks kind 3) 2 126 ∷ []) (mark_at kind 3 1 (omega arith))
    ∙ ap (λ c. get_or (sign kind) 0 126 ∷ get_or (sign kind) 1 126 ∷ c ∷ []) (mark_at kind 3 2 (omega arith))
