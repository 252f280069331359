use Rattle.laws_programs.proofs.Programs as laws
use Rattle.laws_programs.proofs.laws.normal_form_is_spaced.Goals as goal

pub returns : goal.returns
returns c = laws.normal_spaced
