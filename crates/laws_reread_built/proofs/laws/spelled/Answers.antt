use Rattle.laws_reread_built.proofs.Read as Read
use Rattle.laws_reread_built.proofs.laws.spelled.Goals as goal

pub returns : goal.returns
returns c = Read.spelled
