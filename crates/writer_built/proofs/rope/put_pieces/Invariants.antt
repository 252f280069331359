use Rattle.std.proofs.Common.{◌≡◌, ◌++◌, drop, map}
use Rattle.writer_print.specs.Pieces.{piece_token}
use Rattle.writer_rules.specs.Front.{Keeps}
use Rattle.writer_built.proofs.rope.put_pieces.Given as goal

-- the old ones stand in front, and what is left is to stand behind what is put
abbrev pub invariant-loop-piece : goal.invariant-loop-piece
invariant-loop-piece l = record {
  kept : Keeps l.initial.out.items l.out.items;
  put : map piece_token l.out.items ++ map piece_token (drop l.piece-index l.pieces)
      ≡ map piece_token l.initial.out.items ++ map piece_token l.pieces;
}
