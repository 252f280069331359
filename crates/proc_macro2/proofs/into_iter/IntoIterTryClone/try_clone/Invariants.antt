use Rattle.std.proofs.Common.{◌≡◌, map, take}
use Rattle.proc_macro2.specs.Flat.{tree_tokens}
use Rattle.proc_macro2.specs.Left.{trees_left}
use Rattle.proc_macro2.proofs.into_iter.IntoIterTryClone.try_clone.Given as goal

abbrev pub invariant-loop-index : goal.invariant-loop-index
invariant-loop-index l = map tree_tokens l.trees.items ≡ map tree_tokens (take l.index (trees_left l.self))
