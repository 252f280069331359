use Rattle.laws_programs.proofs.Files as laws
use Rattle.laws_programs.proofs.laws.files.Goals as goal

pub returns-clause-read : goal.returns-clause-read
returns-clause-read c = laws.whole_file

pub returns-clause-refused : goal.returns-clause-refused
returns-clause-refused c = laws.none_read
