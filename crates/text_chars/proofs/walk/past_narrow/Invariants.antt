use Rattle.std.proofs.Common.{◌-◌, length}
use Rattle.text_chars.specs.Chars.{narrow, past as past_those}
use Rattle.text_chars.proofs.Walks.{Walks}
use Rattle.text_chars.proofs.walk.past_narrow.Given as goal

abbrev pub invariant-loop-at : goal.invariant-loop-at
invariant-loop-at g l = Walks (past_those (narrow g.T.Test.test)) l.text l.start l.at

abbrev pub decreases-loop-at : goal.decreases-loop-at
decreases-loop-at g l = length l.text - l.at
