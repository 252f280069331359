use Rattle.std.proofs.Common.{[], ◌≡◌, ◌++◌, drop, map}
use Rattle.writer_print.specs.Pieces.{piece_token}
use Rattle.syn_tokens.specs.Nests.{are_trees, opened, stand}
use Rattle.syn_tokens.specs.Places.{nest_tokens, placed, spans}
use Rattle.syn_tokens.proofs.tokens.stream_of.Given as goal

-- what is left is to stand behind what is put, and may stand there exactly if all of it is a stream
abbrev pub invariant-loop-piece : goal.invariant-loop-piece
invariant-loop-piece l = record {
  put : nest_tokens l.nest ++ placed (spans l.nest) (drop l.piece-index l.pieces) ≡ placed [] l.pieces;
  on : stand (opened l.nest) (map piece_token (drop l.piece-index l.pieces)) ≡ are_trees (map piece_token l.pieces);
}
