-- Punctuation marks.
use Rattle.std.specs.Prelude.{ℕ, Bool, ◌==◌, List, [], ◌∷◌}
use Rattle.std.specs.List.{list_any}

-- ~ ! @ # $ % ^ & * - = + | ; : , < . > / ? '
abbrev pub marks : List ℕ
marks = 126 ∷ 33 ∷ 64 ∷ 35 ∷ 36 ∷ 37 ∷ 94 ∷ 38 ∷ 42 ∷ 45 ∷ 61 ∷ 43 ∷ 124 ∷ 59 ∷ 58 ∷ 44 ∷ 60 ∷ 46 ∷ 62 ∷ 47 ∷ 63 ∷ 39 ∷
    []

-- a character is one of the marks
unfoldable pub is_mark : ℕ → Bool
is_mark c = list_any (λ mark. mark == c) marks
