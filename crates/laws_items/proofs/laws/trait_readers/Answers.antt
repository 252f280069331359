use Rattle.laws_items.proofs.Traits as Traits
use Rattle.laws_items.proofs.laws.trait_readers.Goals as goal

pub returns-clause-alone : goal.returns-clause-alone
returns-clause-alone c = Traits.read_alone

pub returns-clause-among : goal.returns-clause-among
returns-clause-among c = Traits.read_among
