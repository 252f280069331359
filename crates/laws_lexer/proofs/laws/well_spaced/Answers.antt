use Rattle.laws_lexer.proofs.Reading.{is_spaced}
use Rattle.laws_lexer.proofs.laws.well_spaced.Goals as goal

pub returns : goal.returns
returns c = is_spaced
