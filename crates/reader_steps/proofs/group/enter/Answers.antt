use Rattle.std.proofs.Common.{sym, ◌∙◌}
use Rattle.reader_steps.proofs.Groups.{entered, entered_inside, entered_behind}
use Rattle.reader_steps.proofs.group.enter.Goals as goal

pub returns-clause-enters : goal.returns-clause-enters
returns-clause-enters c =
    entered c.args.delimiter _ _ _ _ _ _ c.in_ok-entry.ensures.cases.0 c.in-Open.is
    (sym c.is_same.ensures ∙ c.if-not-is_same.false) c.requires

pub returns-clause-inside : goal.returns-clause-inside
returns-clause-inside c = entered_inside c.args.delimiter _ _ _ _ _ _ c.in_ok-entry.ensures.cases.0 c.in-Open.is
    c.requires

pub returns-clause-behind : goal.returns-clause-behind
returns-clause-behind c = entered_behind c.args.delimiter _ _ _ _ _ _ c.in_ok-entry.ensures.cases.0 c.in-Open.is
    c.requires
