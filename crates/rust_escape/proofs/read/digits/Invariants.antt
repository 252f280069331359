use Rattle.std.proofs.Common.{◌-◌, length}
use Rattle.rust_escape.proofs.Steps.{Spells}
use Rattle.rust_escape.proofs.read.digits.Given as goal

abbrev pub invariant-loop-at : goal.invariant-loop-at
invariant-loop-at l = Spells l.mode l.text l.start l.at l.count l.number

abbrev pub decreases-loop-at : goal.decreases-loop-at
decreases-loop-at l = length l.text - l.at
