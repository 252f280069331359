-- Values and pairs that are put behind a list.
use Rattle.std.specs.Prelude.{◌≡◌, List, [], ◌∷◌, ◌++◌, Option, Some, None, map, length, nat_lt, cond}
use Rattle.syn_lists.specs.Lists.{IsSeparated}

-- The separators of values that stand behind one another, by what was given behind each: where none was given, one
-- by default, and none behind the last.
abbrev pub Separates : {P : Type 0} → (P → Type 0) → List (Option P) → List P → Type 0
Separates by_default [] ps = ps ≡ []
Separates {P} by_default (Some p ∷ given) ps = (qs : List P) × (ps ≡ p ∷ qs) × Separates by_default given qs
Separates by_default (None ∷ []) ps = ps ≡ []
Separates {P} by_default (None ∷ o ∷ given) ps =
    (p : P) × (qs : List P) × by_default p × (ps ≡ p ∷ qs) × Separates by_default (o ∷ given) qs

-- what was given behind the last value of a list, if nothing was
abbrev pub lacking : {T P : Type 0} → List T → List P → List (Option P)
lacking vs ps = cond (nat_lt (length ps) (length vs)) (None ∷ []) []

-- A list that has these values and these separators is left with others, once these values have been put behind it,
-- each with what was given behind it.
abbrev pub Extends : {T P : Type 0} → (P → Type 0) → List T → List P → List T → List (Option P) → List T → List P
    → Type 0
Extends {P = P} by_default vs ps added given ws qs =
    (ws ≡ vs ++ added) × (IsSeparated vs ps → IsSeparated ws qs
    × ((rs : List P) × (qs ≡ ps ++ rs) × Separates by_default (lacking vs ps ++ given) rs))

-- a list that has these values and these separators was made of such values
abbrev pub IsMadeOf : {T P : Type 0} → (P → Type 0) → List T → List (Option P) → List T → List P → Type 0
IsMadeOf by_default all given ws qs = (ws ≡ all) × IsSeparated ws qs × Separates by_default given qs

-- the first and the second of each pair, and nothing behind values
abbrev pub firsts : {T P : Type 0} → List (T × Option P) → List T
firsts xs = map (λ x. x.0) xs

abbrev pub seconds : {T P : Type 0} → List (T × Option P) → List (Option P)
seconds xs = map (λ x. x.1) xs

abbrev pub nothing : {T P : Type 0} → List T → List (Option P)
nothing vs = map (λ v. None) vs
