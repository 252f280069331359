-- A group that opens.
use Rattle.reader_fast.proofs.GroupForms.{entered, entered_behind, entered_inside, opened_at}
use Rattle.reader_fast.proofs.attributes.enter.Goals as goal

pub returns-clause-opens : goal.returns-clause-opens
returns-clause-opens c = opened_at _ _ _ _ _ _ c.in_ok-first.ensures.cases.0 c.in-Open.is

pub returns-clause-enters : goal.returns-clause-enters
returns-clause-enters c = entered _ _ _ _ _ _ c.in_ok-first.ensures.cases.0 c.in-Open.is c.requires

pub returns-clause-inside : goal.returns-clause-inside
returns-clause-inside c = entered_inside _ _ _ _ _ _ c.in_ok-first.ensures.cases.0 c.in-Open.is c.requires

pub returns-clause-behind : goal.returns-clause-behind
returns-clause-behind c = entered_behind _ _ _ _ _ _ c.in_ok-first.ensures.cases.0 c.in-Open.is c.requires
