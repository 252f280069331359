use Rattle.std.proofs.Common.{◌≡◌, ◌++◌, drop}
use Rattle.syn_made.proofs.lists.copied_trees.Given as goal

-- what is left is to stand behind what is copied
abbrev pub invariant-loop-tree : goal.invariant-loop-tree
invariant-loop-tree l = l.copies.items ++ drop l.tree-index l.trees ≡ l.trees
