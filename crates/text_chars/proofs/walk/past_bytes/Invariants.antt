use Rattle.std.proofs.Common.{◌-◌, length}
use Rattle.text_chars.proofs.Bytes.{ArePassed}
use Rattle.text_chars.proofs.walk.past_bytes.Given as goal

abbrev pub invariant-loop-at : goal.invariant-loop-at
invariant-loop-at g l = ArePassed g.T.Test.test l.text l.start l.at

abbrev pub decreases-loop-at : goal.decreases-loop-at
decreases-loop-at g l = length l.text - l.at

abbrev pub invariant-loop-at-2 : goal.invariant-loop-at-2
invariant-loop-at-2 g l = ArePassed g.T.Test.test l.text l.start l.at

abbrev pub decreases-loop-at-2 : goal.decreases-loop-at-2
decreases-loop-at-2 g l = length l.text - l.at
