use Rattle.laws_reread.proofs.ReadBack as ReadBack
use Rattle.laws_reread.proofs.laws.read_back.Goals as goal

pub returns : goal.returns
returns c = ReadBack.read_back
