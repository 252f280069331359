use Rattle.laws_lexer.proofs.Plain.{one_reading}
use Rattle.laws_lexer.proofs.laws.one_reading.Goals as goal

pub returns : goal.returns
returns c = one_reading
