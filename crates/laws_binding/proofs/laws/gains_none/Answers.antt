use Rattle.laws_binding.proofs.Gains as Gains
use Rattle.laws_binding.proofs.laws.gains_none.Goals as goal

pub returns : goal.returns
returns c = Gains.gains_none
