use Rattle.laws_reread.proofs.ToldPositions as ToldPositions
use Rattle.laws_reread.proofs.laws.same_in_position.Goals as goal

pub returns : goal.returns
returns c = ToldPositions.same_in_position
