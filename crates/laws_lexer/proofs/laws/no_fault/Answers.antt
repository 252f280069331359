use Rattle.laws_lexer.proofs.Forests.{spaced_no_fault}
use Rattle.laws_lexer.proofs.laws.no_fault.Goals as goal

pub returns : goal.returns
returns c = spaced_no_fault
