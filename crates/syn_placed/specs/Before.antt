-- What stands in a tree in front of its part of a name.
use Rattle.std.specs.Prelude.{List, [], ◌∷◌, ◌++◌, cond}
use Rattle.proc_macro2.specs.Token.{Token, Opens}
use Rattle.syn_grammar.specs.Name.{Part}
use Rattle.syn_grammar.specs.Part.{has}
use Rattle.syn_grammar.specs.Tree.{Tree, Pair, First, Second, Group, flat}

-- the tokens in front of the part of that name; of a tree that has none they say nothing
abbrev pub before : Part → Tree → List Token
before n (Pair x y) = cond (has n x) (before n x) (flat x ++ before n y)
before n (First x) = before n x
before n (Second x) = before n x
before n (Group d x) = Opens d ∷ before n x
before n _ = []
