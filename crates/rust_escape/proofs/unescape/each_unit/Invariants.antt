use Rattle.std.proofs.Common.{length, ◌-◌}
use Rattle.rust_escape.proofs.Telling.{IsTelling}
use Rattle.rust_escape.proofs.unescape.each_unit.Given as goal

abbrev pub invariant-loop-at : goal.invariant-loop-at
invariant-loop-at g l =
    goal.F-IsAlwaysCallable g l.callback
    × IsTelling (λ f range said h. goal.F-step g f range said tt h) g.T.Unit.spelled l.mode l.text l.fn.callback l.at
    l.callback

abbrev pub decreases-loop-at : goal.decreases-loop-at
decreases-loop-at g l = length l.text - l.at
