use Rattle.laws_reread.proofs.ReadBack as ReadBack
use Rattle.laws_reread.proofs.laws.same_tokens.Goals as goal

pub returns : goal.returns
returns c = ReadBack.same_tokens
