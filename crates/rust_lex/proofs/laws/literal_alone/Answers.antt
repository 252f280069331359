use Rattle.rust_lex.proofs.Alone.{literal_calm}
use Rattle.rust_lex.proofs.laws.literal_alone.Goals as goal

pub returns : goal.returns
returns c = literal_calm
