use Rattle.laws_lexer.proofs.Exactly.{forest_back}
use Rattle.laws_lexer.proofs.laws.forest_back.Goals as goal

pub returns : goal.returns
returns c = forest_back
