use Rattle.laws_items.proofs.Readers as Readers
use Rattle.laws_items.proofs.laws.item_readers.Goals as goal

pub returns-clause-alone : goal.returns-clause-alone
returns-clause-alone c = Readers.read_alone

pub returns-clause-among : goal.returns-clause-among
returns-clause-among c = Readers.read_among
