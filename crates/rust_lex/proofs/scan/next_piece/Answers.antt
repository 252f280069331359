use Rattle.rust_lex.proofs.Pieces.{piece_at}
use Rattle.rust_lex.proofs.scan.next_piece.Goals as goal

pub returns : goal.returns
returns c = piece_at _ _ c.scan_at.result c.requires c.scan_at.ensures
