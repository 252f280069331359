use Rattle.laws_items.proofs.SetApart as SetApart
use Rattle.laws_items.proofs.laws.items_set_apart.Goals as goal

pub returns-clause-read : goal.returns-clause-read
returns-clause-read c = SetApart.item_apart

pub returns-clause-raw : goal.returns-clause-raw
returns-clause-raw c = SetApart.raw_apart
