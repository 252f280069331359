use Rattle.std.proofs.Common.{rules, arith, ◌^◌}
use Rattle.syn_leaf.proofs.Digits.{line_turn, digit_turn, none_turn, over, past_bound}
use Rattle.syn_leaf.proofs.integer.number.Goals as goal

pub loop-c-preserved-then-c-eq95 : goal.loop-c-preserved-then-c-eq95
loop-c-preserved-then-c-eq95 c =
    line_turn c.args.base _ c.in-Some.c _ _ _ c.loop-c.invariant.0 c.in-Some.ensures.steps.0 c.if-c-eq95.true
    c.loop-c.invariant.1

pub returns-in_default-to_digit : goal.returns-in_default-to_digit
returns-in_default-to_digit c =
    none_turn c.args.base _ c.in-Some.c _ _ _ c.loop-c.invariant.0 c.in-Some.ensures.steps.0 c.if-c-eq95.false
    (search rules) c.loop-c.invariant.1

pub loop-c-preserved : goal.loop-c-preserved
loop-c-preserved c =
    digit_turn c.args.base _ c.in-Some.c c.in-Some-to_digit.digit _ _ _ _ c.loop-c.invariant.0 c.in-Some.ensures.steps.0
    c.if-c-eq95.false (search rules) (search rules) (search rules) c.loop-c.invariant.1

pub returns : goal.returns
returns c = over c.args.base _ _ _ c.in_default.ensures.steps.0.0 c.loop-c.invariant.1

pub returns-in_err-number : goal.returns-in_err-number
returns-in_err-number c =
    let most = past_bound (2 ^ 128) c.args.base _ c.in-Some.c c.in-Some-to_digit.digit _ _ _
    (omega arith) c.loop-c.invariant.0 c.in-Some.ensures.steps.0 c.if-c-eq95.false (search rules)
    (search rules) c.in_err-number.ensures c.loop-c.invariant.1 in
    search (rules, most)
