use Rattle.std.proofs.Common.{◌+◌, ◌*◌, ◌≤◌, length}
use Rattle.syn_buffer.specs.Position.{rest}
use Rattle.bench_buffer.proofs.walk.+walking.Given as goal

-- the inside of a group is shorter than the list in which it stands
abbrev pub decreases-past_group : goal.decreases-past_group
decreases-past_group l = 2 * length (rest l.at)

abbrev pub decreases-walk : goal.decreases-walk
decreases-walk l = 2 * length (rest l.begin) + 1

abbrev pub invariant-walk-loop-at : goal.invariant-walk-loop-at
invariant-walk-loop-at l = length (rest l.at) ≤ length (rest l.initial.begin)

abbrev pub decreases-walk-loop-at : goal.decreases-walk-loop-at
decreases-walk-loop-at l = length (rest l.at)
