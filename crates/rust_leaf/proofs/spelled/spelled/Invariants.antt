use Rattle.std.proofs.Common.{length, ◌-◌}
use Rattle.rust_leaf.proofs.Spellings.{HasSpelled}
use Rattle.rust_leaf.specs.Value.{value_rule}
use Rattle.rust_leaf.proofs.spelled.spelled.Given as goal

abbrev pub invariant-loop-at : goal.invariant-loop-at
invariant-loop-at g l = HasSpelled g.S.Spelling.holds (value_rule l.mode) l.mode l.inside l.at l.out

abbrev pub decreases-loop-at : goal.decreases-loop-at
decreases-loop-at g l = length l.inside - l.at
