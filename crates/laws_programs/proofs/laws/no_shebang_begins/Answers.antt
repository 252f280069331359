use Rattle.laws_programs.proofs.Outputs as laws
use Rattle.laws_programs.proofs.laws.no_shebang_begins.Goals as goal

pub returns : goal.returns
returns c = laws.no_shebang_begins
