use Rattle.laws_programs.proofs.JoinedFiles as laws
use Rattle.laws_programs.proofs.laws.joined_files.Goals as goal

pub returns : goal.returns
returns c = laws.joined_files
