-- What may follow any leaf that isn't a joint mark.
use Rattle.std.specs.Prelude.{◌≡◌, ℕ, true, List, [], ◌∷◌}
use Rattle.rust_lex.specs.Chars.{is_among}

-- a space ) ]
abbrev pub calm : List ℕ
calm = 32 ∷ 41 ∷ 93 ∷ []

-- the text ends there, or a space or a closing mark that stands close follows
abbrev pub IsCalm : List ℕ → Type 0
IsCalm [] = Unit {0}
IsCalm (c ∷ cs) = is_among calm c ≡ true
