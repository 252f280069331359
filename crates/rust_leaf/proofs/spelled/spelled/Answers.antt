use Rattle.std.proofs.Common.{◌≤◌, ◌∙◌, ap, arith, length}
use Rattle.std.specs.Prelude.{Ok}
use Rattle.rust_leaf.proofs.Spellings.{spelled_value, spelled_skip, spelled_all, spelled_never}
use Rattle.rust_leaf.specs.Value.{value_rule}
use Rattle.rust_leaf.proofs.spelled.spelled.Goals as goal

pub returns-in_err-value-clause-malformed : goal.returns-in_err-value-clause-malformed
returns-in_err-value-clause-malformed g c =
    let at = c.loop-at.at in
    λ error e. spelled_never g.S.Spelling.holds (value_rule c.args.mode) c.args.mode c.args.inside.now at c.loop-at.out
    c.value_unit-reading.result c.in_err-value.field-0.0 c.loop-at.invariant c.loop-at-test.true
    c.value_unit-reading.ensures c.in_err-value.was

pub loop-at-preserved-in_ok-put : goal.loop-at-preserved-in_ok-put
loop-at-preserved-in_ok-put g c =
    spelled_value g.S.Spelling.holds (value_rule c.args.mode) c.args.mode c.args.inside.now c.loop-at.at c.loop-at.out
    c.put.new.self c.value_unit-reading.result c.in-Some.value c.loop-at.invariant c.value_unit-reading.ensures
    (c.in_ok-value.was ∙ ap (λ v. Ok v) c.in-Some.is)
    c.in_ok-put.ensures

pub loop-at-preserved : goal.loop-at-preserved
loop-at-preserved g c =
    spelled_skip g.S.Spelling.holds (value_rule c.args.mode) c.args.mode c.args.inside.now c.loop-at.at c.loop-at.out
    c.value_unit-reading.result c.loop-at.invariant c.value_unit-reading.ensures
    (c.in_ok-value.was ∙ ap (λ v. Ok v) c.in_default.is)

pub returns-clause-value : goal.returns-clause-value
returns-clause-value g c =
    let l : length c.args.inside.now ≤ c.loop-at.at = omega arith in
    spelled_all g.S.Spelling.holds (value_rule c.args.mode) c.args.mode c.args.inside.now c.loop-at.at c.loop-at.out
    c.loop-at.invariant l
