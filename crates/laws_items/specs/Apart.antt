-- A tree whose last mark stands alone.
use Rattle.rust_leaf.specs.declared.punct.Spacing.TheVariants.{Alone as Apart}
use Rattle.syn_grammar.specs.Tree.{Tree, AMark, Pair, First, Second, Called, Verbatim, Node}

-- The same tree, but for how its last mark is spaced, where it ends in one: that stands alone. It is the last mark of
-- the last part, down to that mark; what ends in anything else stays as it is.
abbrev pub set_apart : Tree → Tree
set_apart (AMark c cs spacing) = AMark c cs Apart
set_apart (Pair x y) = Pair x (set_apart y)
set_apart (First x) = First (set_apart x)
set_apart (Second x) = Second (set_apart x)
set_apart (Called n x) = Called n (set_apart x)
set_apart (Verbatim x) = Verbatim (set_apart x)
set_apart (Node k x) = Node k (set_apart x)
set_apart x = x
