use Rattle.std.proofs.Common.{◌≡◌, ◌++◌, drop, map, true}
use Rattle.writer_print.specs.Pieces.{piece_token}
use Rattle.syn_buffer.specs.Entries.{entry_token}
use Rattle.writer_normal.specs.Marks.{are_known}
use Rattle.writer_normal.proofs.verbatim.put_entries.Given as goal

-- what is left is to stand behind what is put, and its marks are of the 22
abbrev pub invariant-loop-piece : goal.invariant-loop-piece
invariant-loop-piece l = record {
  put : map entry_token l.out.items ++ map piece_token (drop l.piece-index l.pieces)
      ≡ map entry_token l.initial.out.items ++ map piece_token l.pieces;
  known : are_known (map piece_token (drop l.piece-index l.pieces)) ≡ true;
}
