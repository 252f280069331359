-- What is counted, and what is left to count, is all.
use Rattle.std.proofs.Common.{◌≡◌, ◌+◌, length}
use Rattle.syn_grammar.specs.Tree.{flat}
use Rattle.reader_rust.specs.Count.{tokens_left, weight_left}
use Rattle.reader_rust.proofs.count.past.Given as goal

abbrev pub invariant-loop-left : goal.invariant-loop-left
invariant-loop-left l = l.behind + tokens_left l.left.items ≡ l.index + length (flat l.tree)

abbrev pub decreases-loop-left : goal.decreases-loop-left
decreases-loop-left l = weight_left l.left.items
