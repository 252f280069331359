use Rattle.laws_lexer.proofs.Standing.{tokens_found}
use Rattle.laws_lexer.proofs.places.source_is_printed.Goals as goal

pub returns : goal.returns
returns c = tokens_found
