use Rattle.laws_reread_expressions.proofs.ReadBack as ReadBack
use Rattle.laws_reread_expressions.proofs.laws.read_back.Goals as goal

pub returns : goal.returns
returns c = ReadBack.read_back
