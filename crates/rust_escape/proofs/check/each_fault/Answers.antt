use Rattle.std.proofs.Common.{◌≤◌, arith, of_calls, rules, refl, length}
use Rattle.rust_escape.specs.Value.{Value}
use Rattle.rust_escape.proofs.Telling.{ends_telling, tells_unit, tells_skip, tells_malformed}
use Rattle.rust_escape.proofs.check.each_fault.Goals as goal

pub loop-at-preserved-in-Ok-Some : goal.loop-at-preserved-in-Ok-Some
loop-at-preserved-in-Ok-Some g c = (
  c.loop-at.invariant.0,
  tells_unit {T = Value} _ _ _ _ _ c.loop-at.at c.loop-at.callback c.loop-at.callback c.scanned_unit-reading.result
      c.in-Ok-Some.field-0-0 c.in-Ok-Some.field-0-0 c.loop-at.invariant.1 c.scanned_unit-reading.ensures.scanned
      (search rules) refl refl,
)

pub loop-at-preserved-in-Ok-None : goal.loop-at-preserved-in-Ok-None
loop-at-preserved-in-Ok-None g c = (
  c.warn.ensures.callable,
  tells_skip {T = Value} _ _ _ _ _ c.loop-at.at c.loop-at.callback _ c.scanned_unit-reading.result c.loop-at.invariant.1
      c.scanned_unit-reading.ensures.scanned
      (search rules) c.warn.ensures.told,
)

pub loop-at-preserved : goal.loop-at-preserved
loop-at-preserved g c = (
  search of_calls,
  tells_malformed {T = Value} _ _ _ _ _ c.loop-at.at c.loop-at.callback _ c.scanned_unit-reading.result c.in-Err.error
      c.scanned_unit-reading.ensures.behind (rw c.in-Err.is at c.scanned_unit-reading.ensures.over)
      c.loop-at.invariant.1 c.scanned_unit-reading.ensures.scanned
      c.in-Err.is c.callback.ensures,
)

pub returns : goal.returns
returns g c = let l : length c.args.text.now ≤ c.loop-at.at =
    omega arith in ends_telling {T = Value} _ _ _ _ _ c.loop-at.at c.loop-at.callback l c.loop-at.invariant.1
