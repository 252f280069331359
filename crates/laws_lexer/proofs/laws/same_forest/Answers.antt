use Rattle.laws_lexer.proofs.Forests.{same_forest}
use Rattle.laws_lexer.proofs.laws.same_forest.Goals as goal

pub returns : goal.returns
returns c = same_forest
