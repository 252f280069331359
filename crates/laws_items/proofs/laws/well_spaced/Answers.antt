use Rattle.laws_items.proofs.Quiet as Quiet
use Rattle.laws_items.proofs.laws.well_spaced.Goals as goal

pub returns-clause-whole : goal.returns-clause-whole
returns-clause-whole c = Quiet.whole

pub returns-clause-before : goal.returns-clause-before
returns-clause-before c = Quiet.before

pub returns-clause-anywhere : goal.returns-clause-anywhere
returns-clause-anywhere c = Quiet.anywhere
