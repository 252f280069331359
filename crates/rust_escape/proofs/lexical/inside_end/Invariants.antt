use Rattle.std.proofs.Common.{◌-◌, length}
use Rattle.rust_escape.proofs.Closing.{Seeks}
use Rattle.rust_escape.proofs.lexical.inside_end.Given as goal

abbrev pub invariant-loop-at : goal.invariant-loop-at
invariant-loop-at l = Seeks l.mode l.text l.start l.at

abbrev pub decreases-loop-at : goal.decreases-loop-at
decreases-loop-at l = length l.text - l.at
