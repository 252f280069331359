use Rattle.std.proofs.Common.{◌≡◌, drop, map, ◌*◌, ◌+◌}
use denote.Param.Weighed.{most}
use Rattle.reader_table.specs.Ops.{separator_of}
use Rattle.reader_tree.specs.declared.tree.Tree.TheDeep.{size-Tree, size-Element}
use Rattle.reader_tree.specs.Forms.{elements, ending, turns}
use Rattle.reader_tree.specs.Size.{node_count}
use Rattle.syn_grammar.specs.Tree.{flat}
use Rattle.writer_normal.specs.Marks.{are_known}
use Rattle.writer_normal.specs.Separators.{is_mixed}
use Rattle.writer_normal.proofs.laws.+laws.Given as goal

-- what is said of those that are left is said of all
abbrev pub invariant-each_turn-loop-tree : goal.invariant-each_turn-loop-tree
invariant-each_turn-loop-tree l = record {
  one_separator : is_mixed (turns (drop l.tree-index l.trees)) ≡ is_mixed (turns l.trees);
  marks : are_known (flat (turns (drop l.tree-index l.trees))) ≡ are_known (flat (turns l.trees));
}

abbrev pub invariant-each_element-loop-element : goal.invariant-each_element-loop-element
invariant-each_element-loop-element l = record {
  one_separator : is_mixed (turns (map (λ e. e.tree) (drop l.element-index l.before)))
      ≡ is_mixed (turns (map (λ e. e.tree) l.before));
  marks : are_known (flat (turns (map (λ e. e.tree) (drop l.element-index l.before))))
      ≡ are_known (flat (turns (map (λ e. e.tree) l.before)));
}

abbrev pub decreases-each_tree : goal.decreases-each_tree
decreases-each_tree l = 2 * size-Tree l.tree.now

abbrev pub decreases-each_turn : goal.decreases-each_turn
decreases-each_turn l = 2 * most (λ x. size-Tree x) l.trees.now + 1

abbrev pub decreases-each_list : goal.decreases-each_list
decreases-each_list l =
    8 * node_count (elements (separator_of l.list.now.separator) l.list.now.before.now
    (ending (λ b. b.now) l.list.now.last)) + 7

abbrev pub decreases-each_element : goal.decreases-each_element
decreases-each_element l = 2 * most (λ x. size-Element x) l.before.now
