use Rattle.std.proofs.Common.{sym, ◌∙◌}
use Rattle.syn_leaf.proofs.Digits.{split_one, split_plain, split_based}
use Rattle.syn_leaf.proofs.integer.split.Goals as goal

pub returns-in_default-next-clause-digits : goal.returns-in_default-next-clause-digits
returns-in_default-next-clause-digits c =
    (split_one _ _ c.in-Some.first c.utf8.text (sym c.chars-rest.ensures.rest
    ∙ c.in-Some.ensures.steps.0) c.in_default-next.ensures.steps.0.0).1

pub returns-then-base-eq0-clause-digits : goal.returns-then-base-eq0-clause-digits
returns-then-base-eq0-clause-digits c =
    (split_plain _ _ _ c.in-Some.first c.in-Some-next.second _ c.utf8.text (sym c.chars-rest.ensures.rest
    ∙ c.in-Some.ensures.steps.0) c.in-Some-next.ensures.steps.0 c.base_by-base.ensures.value c.if-base-eq0.true).1

pub returns-clause-base : goal.returns-clause-base
returns-clause-base c =
    (split_based _ _ _ c.in-Some.first c.in-Some-next.second _ c.utf8.text (sym c.chars-rest.ensures.rest
    ∙ c.in-Some.ensures.steps.0) c.in-Some-next.ensures.steps.0 c.base_by-base.ensures.value c.if-base-eq0.false).0

pub returns-clause-digits : goal.returns-clause-digits
returns-clause-digits c =
    let behind = (split_based _ _ _ c.in-Some.first c.in-Some-next.second _ c.utf8.text
    (sym c.chars-rest.ensures.rest
    ∙ c.in-Some.ensures.steps.0) c.in-Some-next.ensures.steps.0 c.base_by-base.ensures.value c.if-base-eq0.false).1 in
    cc (behind, c.as_str.ensures)
