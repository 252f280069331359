use Rattle.laws_programs.proofs.Outputs as laws
use Rattle.laws_programs.proofs.laws.one_output_for_one_form.Goals as goal

pub returns : goal.returns
returns c = laws.one_form
