-- Tokens that may stand before others.
use Rattle.std.specs.Prelude.{Bool, true, ◌&&◌, List, [], ◌∷◌, ◌++◌, Option, Some, None}
use denote.Ref.{Bor}
use Rattle.proc_macro2.specs.Token.{Token, plain}
use Rattle.proc_macro2.specs.Flat.{tree_tokens}
use Rattle.proc_macro2.specs.Spacing.{may_stand}
use Rattle.proc_macro2.specs.declared.tree.TokenTree.{TokenTree}

-- each of the tokens may stand before those behind it, the last of them before the others
abbrev pub all_stand : List Token → List Token → Bool
all_stand [] others = true
all_stand (t ∷ ts) others = may_stand t (ts ++ others) && all_stand ts others

-- the tokens of the tree that follows, if one does
abbrev pub tokens_behind : Option (Bor TokenTree) → List Token
tokens_behind None = []
tokens_behind (Some next) = plain (tree_tokens next.now)
