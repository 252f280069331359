use Rattle.std.proofs.Common.{◌≡◌, ◌+◌, ◌*◌, ◌++◌, ◌≤◌, drop, length, map, take}
use denote.Param.Weighed.{most}
use Rattle.writer_print.specs.Pieces.{piece_token}
use Rattle.reader_table.specs.Ops.{separator_of}
use Rattle.reader_tree.specs.declared.tree.Tree.TheDeep.{size-Tree, size-Element}
use Rattle.reader_tree.specs.Forms.{elements, turns}
use Rattle.reader_tree.specs.Size.{node_count}
use Rattle.syn_grammar.specs.Tree as t
use Rattle.syn_grammar.specs.Tree.{flat}
use Rattle.writer_rules.specs.Front.{Keeps}
use Rattle.writer_read.specs.Chains.{behind_lefts_read}
use Rattle.writer_read.proofs.as_read.+as_read.Given as goal

-- the old ones stand in front, and what is left is to stand behind what is put
abbrev pub invariant-put_as_read-tails : goal.invariant-put_as_read-tails
invariant-put_as_read-tails l = record {
  kept : Keeps l.fn.out.items l.out.items;
  put : map piece_token l.out.items ++ flat l.left.tree.now ≡ map piece_token l.fn.out.items ++ flat l.fn.tree;
  inside : size-Tree l.left.tree.now ≤ size-Tree l.fn.tree;
}

abbrev pub decreases-put_as_read-tails : goal.decreases-put_as_read-tails
decreases-put_as_read-tails l = size-Tree l.left.tree.now

-- what stands behind the forms that are left is to stand behind what is put
abbrev pub invariant-put_behinds-loop-left : goal.invariant-put_behinds-loop-left
invariant-put_behinds-loop-left l = record {
  kept : Keeps l.initial.out.items l.out.items;
  put : map piece_token l.out.items ++ behind_lefts_read (map (λ x. x.now) (take l.left l.forms))
      ≡ map piece_token l.initial.out.items ++ behind_lefts_read (map (λ x. x.now) l.forms);
  within : l.left ≤ length l.forms;
}

abbrev pub decreases-put_behinds-loop-left : goal.decreases-put_behinds-loop-left
decreases-put_behinds-loop-left l = l.left

-- what is left takes no more than the tree, and more than what is put of it
abbrev pub decreases-put_as_read : goal.decreases-put_as_read
decreases-put_as_read l = 2 * size-Tree l.tree.now

abbrev pub decreases-put_group : goal.decreases-put_group
decreases-put_group l = 2 * size-Tree l.inner.now + 1

abbrev pub decreases-put_before_right : goal.decreases-put_before_right
decreases-put_before_right l = 8 * (node_count l.three.now.left + node_count l.three.now.own) + 14

abbrev pub decreases-put_left : goal.decreases-put_left
decreases-put_left l = 2 * size-Tree l.tree.now + 1

abbrev pub decreases-put_behinds : goal.decreases-put_behinds
decreases-put_behinds l = 2 * most (λ x. size-Tree x.now) l.forms.now

abbrev pub decreases-put_behind : goal.decreases-put_behind
decreases-put_behind l = 8 * node_count l.form.now + 7

abbrev pub decreases-put_turns : goal.decreases-put_turns
decreases-put_turns l = 2 * most (λ x. size-Tree x) l.trees.now + 1

abbrev pub decreases-put_elements : goal.decreases-put_elements
decreases-put_elements l = 2 * most (λ x. size-Element x) l.before.now

abbrev pub invariant-put_turns-loop-tree : goal.invariant-put_turns-loop-tree
invariant-put_turns-loop-tree l = record {
  kept : Keeps l.initial.out.items l.out.items;
  put : map piece_token l.out.items ++ flat (turns (drop l.tree-index l.trees))
      ≡ map piece_token l.initial.out.items ++ flat (turns l.trees);
}

abbrev pub invariant-put_elements-loop-element : goal.invariant-put_elements-loop-element
invariant-put_elements-loop-element l = record {
  kept : Keeps l.initial.out.items l.out.items;
  put : map piece_token l.out.items ++ flat (elements (separator_of l.mark) (drop l.element-index l.before) t.End)
      ≡ map piece_token l.initial.out.items ++ flat (elements (separator_of l.mark) l.before t.End);
}
