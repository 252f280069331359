use Rattle.std.proofs.Common.{◌≡◌, ◌++◌, drop}
use Rattle.syn_tokens.specs.Leaves.{leaves_tokens}
use Rattle.reader_table.specs.Ops.{separator_of}
use Rattle.reader_tree.specs.Forms.{elements, turns}
use Rattle.writer_rules.specs.Front.{Keeps}
use Rattle.syn_grammar.specs.Tree as t
use Rattle.syn_grammar.specs.Tree.{flat}
use Rattle.syn_tokens.proofs.leaf.+leaves.Given as goal

-- those that were given stand in front, and what is left is to stand behind what is put
abbrev pub invariant-put_turns-loop-tree : goal.invariant-put_turns-loop-tree
invariant-put_turns-loop-tree l = record {
  kept : Keeps l.initial.out.items l.out.items;
  put : leaves_tokens l.out.items ++ flat (turns (drop l.tree-index l.trees))
      ≡ leaves_tokens l.initial.out.items ++ flat (turns l.trees);
}

abbrev pub invariant-put_elements-loop-element : goal.invariant-put_elements-loop-element
invariant-put_elements-loop-element l = record {
  kept : Keeps l.initial.out.items l.out.items;
  put : leaves_tokens l.out.items ++ flat (elements (separator_of l.mark) (drop l.element-index l.before) t.End)
      ≡ leaves_tokens l.initial.out.items ++ flat (elements (separator_of l.mark) l.before t.End);
}
