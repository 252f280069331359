-- Texts with dots in them.
use Rattle.std.specs.Prelude.{◌≡◌, ℕ, List, [], Option, Some, None, false}
use Rattle.syn_grammar.specs.Words.{before_dot, behind_dots, is_below}

-- what is left of a text from its first dot on, or its end
abbrev pub IsFrom : List ℕ → List ℕ → Type 0
IsFrom cs left = (before_dot left ≡ []) × (behind_dots left ≡ behind_dots cs)

-- a number below 2 ^ 32 and what is left of the text from its first dot on, where that is the number
abbrev pub Reads : Option ℕ → List ℕ → Option (ℕ × List ℕ) → Type 0
Reads number cs None = is_below 4294967296 number ≡ false
Reads number cs (Some (n, left)) = (number ≡ Some n) × IsFrom cs left
