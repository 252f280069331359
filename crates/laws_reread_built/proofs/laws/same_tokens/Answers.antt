use Rattle.laws_reread_built.proofs.ReadBack as ReadBack
use Rattle.laws_reread_built.proofs.laws.same_tokens.Goals as goal

pub returns : goal.returns
returns c = ReadBack.same_tokens
