use Rattle.laws_items.proofs.Stays as Stays
use Rattle.laws_items.proofs.laws.items_stay.Goals as goal

pub returns-clause-read : goal.returns-clause-read
returns-clause-read c = Stays.item_stays

pub returns-clause-raw : goal.returns-clause-raw
returns-clause-raw c = Stays.raw_back
