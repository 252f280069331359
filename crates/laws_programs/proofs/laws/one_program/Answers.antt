use Rattle.laws_programs.proofs.Programs as laws
use Rattle.laws_programs.proofs.laws.one_program.Goals as goal

pub returns : goal.returns
returns c = laws.one_program
