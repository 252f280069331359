use Rattle.laws_programs.proofs.Bangs as laws
use Rattle.laws_programs.proofs.laws.no_shebang_marks.Goals as goal

pub returns : goal.returns
returns c = laws.no_shebang_marks
