use Rattle.laws_programs.proofs.Outputs as laws
use Rattle.laws_programs.proofs.laws.output_is_fixed.Goals as goal

pub returns : goal.returns
returns c = laws.fixed
