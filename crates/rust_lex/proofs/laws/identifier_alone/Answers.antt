use Rattle.rust_lex.proofs.Alone.{ident_calm}
use Rattle.rust_lex.proofs.laws.identifier_alone.Goals as goal

pub returns : goal.returns
returns c = ident_calm
