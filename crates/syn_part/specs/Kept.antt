-- What is kept as it was read, of what is judged.
use Rattle.syn_grammar.specs.Tree.{Tree, First, Node}

-- the first of a choice was chosen; of what was judged, that it is kept as it was read
abbrev pub IsFirst : Tree → Type 0
IsFirst (First x) = Unit {0}
IsFirst _ = ⊥

-- a node whose inside is kept, and not its tokens alone
abbrev pub IsKept : Tree → Type 0
IsKept (Node k x) = IsFirst x
IsKept _ = ⊥
