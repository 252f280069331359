use Rattle.std.proofs.Common.{◌≡◌, ◌++◌, drop, map}
use Rattle.writer_print.specs.Pieces.{piece_token}
use Rattle.syn_buffer.specs.Entries.{entry_token}
use Rattle.writer_rules.specs.Front.{Keeps}
use Rattle.writer_rules.proofs.put.entries.Given as goal

-- the old ones stand in front, and what is left is to stand behind what is put
abbrev pub invariant-loop-entry : goal.invariant-loop-entry
invariant-loop-entry l = record {
  kept : Keeps l.initial.out.items l.out.items;
  put : map piece_token l.out.items ++ map entry_token (drop l.entry-index l.entries)
      ≡ map piece_token l.initial.out.items ++ map entry_token l.entries;
}
