-- What may stand behind the digits of an integer.
use Rattle.std.specs.Prelude.{◌≡◌, ℕ, true, List, [], ◌∷◌}
use Rattle.rust_lex.specs.Chars.{is_among, is_next, passes}

-- none, or an identifier that begins with u or i
abbrev pub IsIntegerSuffix : List ℕ → Type 0
IsIntegerSuffix [] = Unit {0}
IsIntegerSuffix (c ∷ cs) = (is_among (117 ∷ 105 ∷ []) c ≡ true) × (passes is_next cs ≡ true)
