use Rattle.laws_items.proofs.Raws as Raws
use Rattle.laws_items.proofs.laws.raws_stay.Goals as goal

pub returns-clause-kept : goal.returns-clause-kept
returns-clause-kept c = Raws.kept_raws

pub returns-clause-normal : goal.returns-clause-normal
returns-clause-normal c = Raws.normal_raws
