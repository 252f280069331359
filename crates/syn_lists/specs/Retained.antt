-- What is left of a list where a function takes values out.
use Rattle.std.specs.Prelude.{◌≡◌, ◌<◌, ◌≤◌, ◌-◌, ℕ, Bool, List, [], ◌∷◌, length, take, Option, None}
use Rattle.std.specs.List.Retain.{RetainsInTurn}
use Rattle.syn_lists.specs.Pairs.{pairs}

-- a pair is asked for by its value, and its separator stays as it is
abbrev pub OnValues : {S T P : Type 0} → (S → T → Bool → S → T → Type 0)
    → S → T × Option P → Bool → S → T × Option P → Type 0
OnValues R s x answer t y = R s x.0 answer t y.0 × (y.1 ≡ x.1)

-- pairs, the last of them without a separator
abbrev pub bare : {T P : Type 0} → List (T × Option P) → List (T × Option P)
bare [] = []
bare (x ∷ []) = (x.0, None) ∷ []
bare (x ∷ y ∷ xs) = x ∷ bare (y ∷ xs)

-- The pairs stay whose values the function keeps, each with its own separator, and are left as one of these two lists:
-- as the first where the last pair of the list has a separator, and else as the second, whose last pair has none.
abbrev pub StaysAs : {S T P : Type 0} → (S → T → Bool → S → T → Type 0) → S → List T → List P → List (T × Option P)
    → List (T × Option P) → Type 0
StaysAs {T = T} {P} R s vs ps full ended =
    (kept : List (T × Option P)) × RetainsInTurn (OnValues R) s (pairs vs ps) kept
    × (length vs ≤ length ps → full ≡ kept) × (length ps < length vs → ended ≡ bare kept)

-- a list is left with those
abbrev pub RetainsPairs : {S T P : Type 0} → (S → T → Bool → S → T → Type 0) → S → List T → List P → List T → List P
    → Type 0
RetainsPairs R s vs ps ws qs = StaysAs R s vs ps (pairs ws qs) (pairs ws qs)

-- so many values in front are those, with as many separators, or one fewer
abbrev pub KeepsInFront : {S T P : Type 0} → (S → T → Bool → S → T → Type 0) → S → List T → List P → List T → List P → ℕ
    → Type 0
KeepsInFront R s vs ps ws qs n =
    StaysAs R s vs ps (pairs (take n ws) (take n qs)) (pairs (take n ws) (take (n - 1) qs))
