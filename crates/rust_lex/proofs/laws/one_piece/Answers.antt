use Rattle.rust_lex.proofs.OneCover.{one_piece}
use Rattle.rust_lex.proofs.laws.one_piece.Goals as goal

pub returns : goal.returns
returns c = one_piece
