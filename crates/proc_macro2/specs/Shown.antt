-- How groups are printed: what stands before and behind their inside.
use Rattle.std.specs.Prelude.{ℕ, Bool, true, List, [], ◌∷◌}
use Rattle.proc_macro2.specs.declared.delimiter.Delimiter.TheVariants as delimiter
use Rattle.proc_macro2.specs.Token.{Delimiter, Token}
use Rattle.proc_macro2.specs.Printed.{hugs}

-- before an inside that has trees
abbrev pub front : Delimiter → List ℕ
front delimiter.Parenthesis = 40 ∷ []
front delimiter.Brace = 123 ∷ 32 ∷ []
front delimiter.Bracket = 91 ∷ []
front delimiter.None = []

-- behind an inside that has trees
abbrev pub back : Delimiter → List ℕ
back delimiter.Parenthesis = 41 ∷ []
back delimiter.Brace = 32 ∷ 125 ∷ []
back delimiter.Bracket = 93 ∷ []
back delimiter.None = []

-- a group without trees
abbrev pub empty : Delimiter → List ℕ
empty delimiter.Parenthesis = 40 ∷ 41 ∷ []
empty delimiter.Brace = 123 ∷ 32 ∷ 125 ∷ []
empty delimiter.Bracket = 91 ∷ 93 ∷ []
empty delimiter.None = []

-- the last of some tokens
abbrev pub last : Token → List Token → Token
last t [] = t
last t (u ∷ us) = last u us

-- what follows stands close to the last of the tokens, or there is none
abbrev pub hugs_last : List Token → Bool
hugs_last [] = true
hugs_last (t ∷ ts) = hugs (last t ts)
