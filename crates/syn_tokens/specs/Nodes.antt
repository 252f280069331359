-- The nodes of a tree and the forms of its expressions, each before those that stand in it, in the order of their
-- tokens.
use Rattle.std.specs.Prelude.{List, [], ◌∷◌, ◌++◌}
use Rattle.syn_grammar.specs.Tree.{Tree, Pair, First, Second, Again, Final, More, Group, Dropped, Called, Verbatim}
use Rattle.syn_grammar.specs.Tree.{Node, Whole, Alone, Front, Back, Infix}

-- A node, or a form of an expression, and behind it those in it: those of what stands first in the text first. There
-- are none in raw tokens, nor in what is held by hand and never printed.
abbrev pub nodes : Tree → List Tree
nodes (Pair x y) = nodes x ++ nodes y
nodes (First x) = nodes x
nodes (Second x) = nodes x
nodes (Again x y) = nodes x ++ nodes y
nodes (Final x) = nodes x
nodes (More x c spacing y) = nodes x ++ nodes y
nodes (Group d x) = nodes x
nodes (Dropped x) = nodes x
nodes (Called n x) = nodes x
nodes (Verbatim x) = nodes x
nodes (Node k x) = Node k x ∷ nodes x
nodes (Whole x) = nodes x
nodes (Alone k y) = Alone k y ∷ nodes y
nodes (Front k y x) = Front k y x ∷ nodes y ++ nodes x
nodes (Back l k y) = Back l k y ∷ nodes l ++ nodes y
nodes (Infix l k y r) = Infix l k y r ∷ nodes l ++ (nodes y ++ nodes r)
nodes _ = []
