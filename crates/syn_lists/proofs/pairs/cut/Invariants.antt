use Rattle.std.proofs.Common.{◌≡◌, length, take}
use Rattle.syn_lists.specs.Left.{iter_mut_left}
use Rattle.syn_lists.proofs.pairs.cut.Given as goal

abbrev pub invariant-loop-separators : goal.invariant-loop-separators
invariant-loop-separators g l = take l.count (iter_mut_left l.separators)
    ≡ take l.count (iter_mut_left l.initial.separators)

abbrev pub decreases-loop-separators : goal.decreases-loop-separators
decreases-loop-separators g l = length (iter_mut_left l.separators)
