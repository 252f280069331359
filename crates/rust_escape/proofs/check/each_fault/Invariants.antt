use Rattle.std.proofs.Common.{length, ◌-◌}
use Rattle.rust_escape.specs.Calls.{on_faults}
use Rattle.rust_escape.specs.Value.{Value}
use Rattle.rust_escape.proofs.Telling.{IsTelling}
use Rattle.rust_escape.proofs.check.each_fault.Given as goal

abbrev pub invariant-loop-at : goal.invariant-loop-at
invariant-loop-at g l =
    goal.F-IsAlwaysCallable g l.callback
    × IsTelling {T = Value} (on_faults (λ f range error h. goal.F-step g f range error tt h)) (λ v. v) l.mode l.text
    l.fn.callback l.at l.callback

abbrev pub decreases-loop-at : goal.decreases-loop-at
decreases-loop-at g l = length l.text - l.at
