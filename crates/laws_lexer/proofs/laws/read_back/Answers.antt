use Rattle.proc_macro2.specs.Printed.{text}
use Rattle.laws_lexer.proofs.Printing.{reads_back}
use Rattle.laws_lexer.proofs.Reading.{is_spaced}
use Rattle.laws_lexer.proofs.laws.read_back.Goals as goal

pub returns : goal.returns
returns c = λ ts a. (reads_back ts a, is_spaced (text ts) ts)
