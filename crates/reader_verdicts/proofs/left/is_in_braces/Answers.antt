use Rattle.std.proofs.Common.{◌∙◌}
use Rattle.reader_verdicts.proofs.FormCases.{in_braces_middle, in_braces_off}
use Rattle.reader_verdicts.proofs.left.is_in_braces.Goals as goal

pub returns-in-Delimited : goal.returns-in-Delimited
returns-in-Delimited c =
    c.is_middle.ensures
    ∙ in_braces_middle c.args.group.now c.in-Some.kind c.in-Some.inner.now c.in-Some.ensures c.in-Delimited.is

pub returns-in_default : goal.returns-in_default
returns-in_default c =
    in_braces_off c.args.group.now c.in-Some.kind c.in-Some.inner.now c.in-Some.ensures c.in_default.not-Delimited
