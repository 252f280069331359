use Rattle.laws_reread_built.proofs.ReadBack as ReadBack
use Rattle.laws_reread_built.proofs.laws.read_ended.Goals as goal

pub returns : goal.returns
returns c = ReadBack.read_ended
