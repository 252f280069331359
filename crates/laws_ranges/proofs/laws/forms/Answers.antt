use Rattle.laws_ranges.proofs.Behind as Behind
use Rattle.laws_ranges.proofs.laws.forms.Goals as goal

pub returns-clause-prefix : goal.returns-clause-prefix
returns-clause-prefix c = Behind.front_written

pub returns-clause-postfix : goal.returns-clause-postfix
returns-clause-postfix c = Behind.back_written

pub returns-clause-between : goal.returns-clause-between
returns-clause-between c = Behind.infix_written
