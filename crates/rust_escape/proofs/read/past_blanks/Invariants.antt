use Rattle.std.proofs.Common.{◌-◌, length}
use Rattle.rust_escape.proofs.Steps.{Passes}
use Rattle.rust_escape.proofs.read.past_blanks.Given as goal

abbrev pub invariant-loop-at : goal.invariant-loop-at
invariant-loop-at l = Passes l.text l.start l.at

abbrev pub decreases-loop-at : goal.decreases-loop-at
decreases-loop-at l = length l.text - l.at
