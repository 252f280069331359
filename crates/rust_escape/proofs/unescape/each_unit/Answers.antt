use Rattle.std.proofs.Common.{◌≤◌, arith, of_calls, rules, length}
use Rattle.rust_escape.proofs.Telling.{ends_telling, tells_unit, tells_skip, tells_malformed, takes_read}
use Rattle.rust_escape.proofs.unescape.each_unit.Goals as goal

pub of-requires : goal.of-requires
of-requires g c = takes_read g.T.Unit.takes c.args.mode c.args.text.now c.loop-at.at c.scanned_unit-reading.result
    c.in-Ok-Some.value c.requires.takes c.scanned_unit-reading.ensures.scanned (search rules)

pub loop-at-preserved-in-Ok-Some : goal.loop-at-preserved-in-Ok-Some
loop-at-preserved-in-Ok-Some g c = (
  search of_calls,
  tells_unit _ _ _ _ _ c.loop-at.at c.loop-at.callback _ c.scanned_unit-reading.result c.in-Ok-Some.value c.of.result
      c.loop-at.invariant.1 c.scanned_unit-reading.ensures.scanned
      (search rules) c.of.ensures c.callback.ensures,
)

pub loop-at-preserved-in-Ok-None : goal.loop-at-preserved-in-Ok-None
loop-at-preserved-in-Ok-None g c = (
  c.warn.ensures.callable,
  tells_skip _ _ _ _ _ c.loop-at.at c.loop-at.callback _ c.scanned_unit-reading.result c.loop-at.invariant.1
      c.scanned_unit-reading.ensures.scanned
      (search rules) c.warn.ensures.told,
)

pub loop-at-preserved : goal.loop-at-preserved
loop-at-preserved g c = (
  search of_calls,
  tells_malformed _ _ _ _ _ c.loop-at.at c.loop-at.callback _ c.scanned_unit-reading.result c.in-Err.error
      c.scanned_unit-reading.ensures.behind (rw c.in-Err.is at c.scanned_unit-reading.ensures.over)
      c.loop-at.invariant.1 c.scanned_unit-reading.ensures.scanned
      c.in-Err.is c.callback-in-Err.ensures,
)

pub returns : goal.returns
returns g c = let l : length c.args.text.now ≤ c.loop-at.at =
    omega arith in ends_telling _ _ _ _ _ c.loop-at.at c.loop-at.callback l c.loop-at.invariant.1
