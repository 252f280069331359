use Rattle.laws_reread.proofs.ToldPositions as ToldPositions
use Rattle.laws_reread.proofs.laws.read_ended.Goals as goal

pub returns : goal.returns
returns c = ToldPositions.read_ended
