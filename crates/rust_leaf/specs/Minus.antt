-- The minus that may stand before a number.
use Rattle.std.specs.Prelude.{ℕ, Bool, false, ◌==◌, List, [], ◌∷◌}

-- -
abbrev pub minus : ℕ
minus = 45

-- a text begins with a minus
abbrev pub starts_with_minus : List ℕ → Bool
starts_with_minus [] = false
starts_with_minus (c ∷ cs) = c == minus
