use Rattle.laws_ranges.proofs.Held as Held
use Rattle.laws_ranges.proofs.laws.gains_shells.Goals as goal

pub returns : goal.returns
returns c = Held.gains_shells
