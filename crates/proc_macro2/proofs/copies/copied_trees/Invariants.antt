use Rattle.std.proofs.Common.{◌≡◌, take}
use Rattle.proc_macro2.specs.Flat.{trees_tokens}
use Rattle.proc_macro2.proofs.copies.copied_trees.Given as goal

abbrev pub invariant-loop-tree : goal.invariant-loop-tree
invariant-loop-tree l = trees_tokens l.copies.items ≡ trees_tokens (take l.tree-index l.trees)
