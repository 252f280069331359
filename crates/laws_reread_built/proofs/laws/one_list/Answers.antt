use Rattle.laws_reread_built.proofs.Read as Read
use Rattle.laws_reread_built.proofs.laws.one_list.Goals as goal

pub returns : goal.returns
returns c = Read.one_list
