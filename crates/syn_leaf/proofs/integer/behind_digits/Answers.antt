use Rattle.std.proofs.Common.{rules, ap, ◌∙◌}
use Rattle.std.specs.Str.{chars}
use Rattle.rust_lex.specs.Number.{is_digit_of_or_line}
use Rattle.syn_leaf.proofs.Passed.{passed, stopped, ended}
use Rattle.syn_leaf.proofs.integer.behind_digits.Goals as goal

pub returns-then-not-is_digit-c : goal.returns-then-not-is_digit-c
returns-then-not-is_digit-c c =
    ap chars c.loop-c.invariant.1
    ∙ stopped (is_digit_of_or_line c.args.base) c.in-Some.c _ _ _ c.loop-c.invariant.0 c.in-Some.ensures.steps.0
    (search rules) c.loop-c.invariant.2

pub loop-c-preserved : goal.loop-c-preserved
loop-c-preserved c =
    let rest = passed (is_digit_of_or_line c.args.base) c.in-Some.c _ _ _ c.loop-c.invariant.0 c.in-Some.ensures.steps.0
    (search rules) c.loop-c.invariant.2 in
    (rest.0, search rules, rest.1)

pub returns : goal.returns
returns c = ap chars c.loop-c.invariant.1
    ∙ ended (is_digit_of_or_line c.args.base) _ _ c.in_default.ensures.steps.0.0 c.loop-c.invariant.2
