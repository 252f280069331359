use Rattle.std.proofs.Common.{arith}
use Rattle.writer_rules.proofs.Fronts.{keeps_both}
use Rattle.writer_built.proofs.Pushing.{put_more}
use Rattle.writer_built.proofs.rope.put_pieces.Goals as goal

pub loop-piece-preserved : goal.loop-piece-preserved
loop-piece-preserved c = record {
  kept = keeps_both _ _ _ c.loop-piece.invariant.kept c.put.ensures.keeps;
  put = put_more c.args.pieces.now c.loop-piece.piece-index c.piece-item.result _ _ _ c.piece-item.is (omega arith)
      c.in_ok-put.ensures.put c.loop-piece.invariant.put;
}
