use Rattle.std.proofs.Common.{refl}
use Rattle.rust_leaf.specs.Leaf.{text_of}
use Rattle.writer_print.specs.Pieces.{piece_token}
use Rattle.writer_print.proofs.Sheets.{token_more}
use Rattle.writer_print.proofs.sheet.Sheet.put_piece.Goals as goal

pub returns : goal.returns
returns c =
    token_more c.args.self.now _ (text_of c.push_space.new.out) (piece_token c.args.piece.now) c.of.result
    c.in_ok-push_space.ensures c.in_ok-push_piece.ensures refl c.of.ensures.brace c.of.ensures.close
