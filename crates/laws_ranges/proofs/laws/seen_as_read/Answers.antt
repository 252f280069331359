use Rattle.laws_ranges.proofs.InKept as InKept
use Rattle.laws_ranges.proofs.laws.seen_as_read.Goals as goal

pub returns-clause-ranges : goal.returns-clause-ranges
returns-clause-ranges c = InKept.shelled_kept

pub returns-clause-lefts : goal.returns-clause-lefts
returns-clause-lefts c = InKept.goes_kept

pub returns-clause-given : goal.returns-clause-given
returns-clause-given c = InKept.goes_given
