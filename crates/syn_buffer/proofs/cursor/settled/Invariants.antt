use Rattle.std.proofs.Common.{◌-◌, length}
use Rattle.syn_buffer.proofs.Laid.{Passed}
use Rattle.syn_buffer.proofs.cursor.settled.Given as goal

-- the entries before it are not seen
abbrev pub invariant-loop-at : goal.invariant-loop-at
invariant-loop-at l = Passed l.entries l.at

abbrev pub decreases-loop-at : goal.decreases-loop-at
decreases-loop-at l = length l.entries - l.at
