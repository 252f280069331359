use Rattle.laws_lexer.proofs.Standing.{tokens_ordered}
use Rattle.laws_lexer.proofs.places.tokens_stand_in_order.Goals as goal

pub returns : goal.returns
returns c = tokens_ordered
