use Rattle.std.proofs.Common.{length, ◌-◌}
use Rattle.rust_escape.specs.Unit.{Lexical}
use Rattle.rust_leaf.proofs.Spellings.{HasSpelled}
use Rattle.syn_leaf.proofs.spelled.spelled.Given as goal

-- the values of the units up to the place are held
abbrev pub invariant-loop-at : goal.invariant-loop-at
invariant-loop-at g l = HasSpelled g.S.Spelling.holds Lexical l.mode l.inside l.at l.out

abbrev pub decreases-loop-at : goal.decreases-loop-at
decreases-loop-at g l = length l.inside - l.at
