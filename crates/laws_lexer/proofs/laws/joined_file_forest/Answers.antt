use Rattle.laws_lexer.proofs.Joining.{joined_file_forest}
use Rattle.laws_lexer.proofs.laws.joined_file_forest.Goals as goal

pub returns : goal.returns
returns c = joined_file_forest
