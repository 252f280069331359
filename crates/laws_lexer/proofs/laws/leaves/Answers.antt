use Rattle.laws_lexer.proofs.ReadLeaves.{are_leaves}
use Rattle.laws_lexer.proofs.laws.leaves.Goals as goal

pub returns : goal.returns
returns c = are_leaves
