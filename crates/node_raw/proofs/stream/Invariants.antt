use Rattle.std.specs.Prelude.{◌≡◌, map, take}
use Rattle.syn_buffer.specs.Entries.{entry_token}
use Rattle.writer_print.specs.Pieces.{piece_token}
use Rattle.node_raw.proofs.stream.Given as goal

-- the pieces are the entries so far
abbrev pub invariant-loop-entry : goal.invariant-loop-entry
invariant-loop-entry l = map piece_token l.pieces.items ≡ map entry_token (take l.entry-index l.entries)
