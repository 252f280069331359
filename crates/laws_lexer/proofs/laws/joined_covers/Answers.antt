use Rattle.laws_lexer.proofs.Joining.{joined_covers}
use Rattle.laws_lexer.proofs.laws.joined_covers.Goals as goal

pub returns : goal.returns
returns c = joined_covers
