-- How many nodes a tree has.
use Rattle.std.specs.Prelude.{ℕ, suc, ◌+◌}
use Rattle.syn_grammar.specs.Tree.{Tree, Pair, First, Second, Again, Final, More, Group, Dropped, Called, Verbatim}
use Rattle.syn_grammar.specs.Tree.{Hidden, Node, Whole, Alone, Front, Back, Infix}

abbrev pub node_count : Tree → ℕ
node_count (Pair x y) = suc (node_count x + node_count y)
node_count (First x) = suc (node_count x)
node_count (Second x) = suc (node_count x)
node_count (Again x y) = suc (node_count x + node_count y)
node_count (Final x) = suc (node_count x)
node_count (More x c spacing y) = suc (node_count x + node_count y)
node_count (Group d x) = suc (node_count x)
node_count (Dropped x) = suc (node_count x)
node_count (Called n x) = suc (node_count x)
node_count (Verbatim x) = suc (node_count x)
node_count (Hidden x) = suc (node_count x)
node_count (Node k x) = suc (node_count x)
node_count (Whole x) = suc (node_count x)
node_count (Alone k y) = suc (node_count y)
node_count (Front k y x) = suc (node_count y + node_count x)
node_count (Back l k y) = suc (node_count l + node_count y)
node_count (Infix l k y r) = suc (node_count l + node_count y + node_count r)
node_count _ = 1
