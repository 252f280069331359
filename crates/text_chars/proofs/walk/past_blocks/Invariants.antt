use Rattle.std.proofs.Common.{◌-◌, length}
use Rattle.text_chars.specs.Chars.{narrow}
use Rattle.text_chars.specs.Places.{IsPassed}
use Rattle.text_chars.proofs.walk.past_blocks.Given as goal

abbrev pub invariant-loop-at : goal.invariant-loop-at
invariant-loop-at g l = IsPassed (narrow g.T.Test.test) l.text l.start l.at

abbrev pub decreases-loop-at : goal.decreases-loop-at
decreases-loop-at g l = length l.text - l.at
