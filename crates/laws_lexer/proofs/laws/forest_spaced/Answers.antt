use Rattle.laws_lexer.proofs.Forests.{forest_spaced}
use Rattle.laws_lexer.proofs.laws.forest_spaced.Goals as goal

pub returns : goal.returns
returns c = forest_spaced
