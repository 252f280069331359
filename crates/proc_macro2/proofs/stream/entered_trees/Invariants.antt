use Rattle.std.proofs.Common.{◌≡◌}
use Rattle.std.specs.List.{flat_map}
use Rattle.proc_macro2.specs.Entered.{entered}
use Rattle.proc_macro2.specs.Flat.{trees_tokens}
use Rattle.proc_macro2.specs.Stream.{IsStream}
use Rattle.proc_macro2.proofs.stream.entered_trees.Given as goal

abbrev pub invariant-loop-tree : goal.invariant-loop-tree
invariant-loop-tree l = (trees_tokens l.all.items ≡ flat_map entered l.yielded) × IsStream (trees_tokens l.all.items)
