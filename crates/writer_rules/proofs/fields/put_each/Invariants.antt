use Rattle.std.proofs.Common.{◌≡◌, ◌++◌, drop, map}
use Rattle.writer_print.specs.Pieces.{piece_token}
use Rattle.reader_tree.specs.Forms.{turns}
use Rattle.writer_rules.specs.Front.{Keeps}
use Rattle.writer_rules.specs.Said.{front_fields}
use Rattle.writer_rules.proofs.fields.put_each.Given as goal

-- the old ones stand in front, and what is left is to stand behind what is put
abbrev pub invariant-loop-number : goal.invariant-loop-number
invariant-loop-number l = record {
  kept : Keeps l.initial.out.items l.out.items;
  put : map piece_token l.out.items ++ front_fields (turns (drop l.number-index l.numbers))
      ≡ map piece_token l.initial.out.items ++ front_fields (turns l.numbers);
}
