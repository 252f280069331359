use Rattle.laws_ranges.proofs.Behind as Behind
use Rattle.laws_ranges.proofs.laws.given_forms.Goals as goal

pub returns-clause-range : goal.returns-clause-range
returns-clause-range c = Behind.range_given

pub returns-clause-between : goal.returns-clause-between
returns-clause-between c = Behind.infix_given

pub returns-clause-cast : goal.returns-clause-cast
returns-clause-cast c = Behind.cast_given
