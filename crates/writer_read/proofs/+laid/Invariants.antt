use Rattle.std.specs.Prelude.{false}
use Rattle.std.proofs.Common.{◌≡◌, ◌+◌, ◌*◌, ◌++◌, ◌≤◌, [], drop, length, map, take}
use denote.Param.Weighed.{most}
use Rattle.writer_print.specs.Pieces.{piece_token}
use Rattle.reader_table.specs.Ops.{separator_of}
use Rattle.reader_tree.specs.declared.tree.Tree.TheDeep.{size-Tree, size-Element}
use Rattle.reader_tree.specs.Forms.{elements, turns}
use Rattle.reader_tree.specs.Size.{node_count}
use Rattle.syn_grammar.specs.Tree as t
use Rattle.writer_rules.specs.Front.{Keeps}
use Rattle.writer_rules.specs.Laid.{laid, laid_in, others_laid, those_laid}
use Rattle.writer_rules.specs.Way.{passes}
use Rattle.writer_read.specs.Chains.{behind_lefts}
use Rattle.writer_read.proofs.+laid.Given as goal

-- the old ones stand in front, and what is left is to stand behind what is put
abbrev pub invariant-laid::put_laid-tails : goal.invariant-laid::put_laid-tails
invariant-laid::put_laid-tails l = record {
  kept : Keeps l.fn.out.items l.out.items;
  put : map piece_token l.out.items ++ laid_in l.left.within l.left.tree.now
      ≡ map piece_token l.fn.out.items ++ laid_in l.fn.within l.fn.tree;
  inside : size-Tree l.left.tree.now ≤ size-Tree l.fn.tree;
}

abbrev pub decreases-laid::put_laid-tails : goal.decreases-laid::put_laid-tails
decreases-laid::put_laid-tails l = size-Tree l.left.tree.now

abbrev pub invariant-turn::put_turns-loop-index : goal.invariant-turn::put_turns-loop-index
invariant-turn::put_turns-loop-index l = record {
  kept : Keeps l.initial.out.items l.out.items;
  put : map piece_token l.out.items ++ laid (turns (drop l.index l.trees))
      ≡ map piece_token l.initial.out.items ++ laid (turns l.trees);
}

abbrev pub invariant-laid::put_elements-loop-element : goal.invariant-laid::put_elements-loop-element
invariant-laid::put_elements-loop-element l = record {
  kept : Keeps l.initial.out.items l.out.items;
  put : map piece_token l.out.items ++ laid (elements (separator_of l.mark) (drop l.element-index l.before) t.End)
      ≡ map piece_token l.initial.out.items ++ laid (elements (separator_of l.mark) l.before t.End);
}

abbrev pub invariant-laid::put_those-loop-element : goal.invariant-laid::put_those-loop-element
invariant-laid::put_those-loop-element l = record {
  kept : Keeps l.initial.out.items l.out.items;
  put : map piece_token l.out.items
      ++ those_laid (passes l.which) false (elements (separator_of l.mark) (drop l.element-index l.before) t.End)
      ≡ map piece_token l.initial.out.items
      ++ those_laid (passes l.which) false (elements (separator_of l.mark) l.before t.End);
}

abbrev pub invariant-laid::put_others-loop-element : goal.invariant-laid::put_others-loop-element
invariant-laid::put_others-loop-element l = record {
  kept : Keeps l.initial.out.items l.out.items;
  put : map piece_token l.out.items
      ++ others_laid (passes l.which) [] (elements (separator_of l.mark) (drop l.element-index l.before) t.End)
      ≡ map piece_token l.initial.out.items
      ++ others_laid (passes l.which) [] (elements (separator_of l.mark) l.before t.End);
}

-- what stands behind the forms that are left is to stand behind what is put
abbrev pub invariant-chain::put_behinds-loop-left : goal.invariant-chain::put_behinds-loop-left
invariant-chain::put_behinds-loop-left l = record {
  kept : Keeps l.initial.out.items l.out.items;
  put : map piece_token l.out.items ++ behind_lefts (map (λ x. x.now) (take l.left l.forms))
      ≡ map piece_token l.initial.out.items ++ behind_lefts (map (λ x. x.now) l.forms);
  within : l.left ≤ length l.forms;
}

abbrev pub decreases-chain::put_behinds-loop-left : goal.decreases-chain::put_behinds-loop-left
decreases-chain::put_behinds-loop-left l = l.left

-- a step takes less than the tree, and more than what it hands on
abbrev pub decreases-laid::put_laid : goal.decreases-laid::put_laid
decreases-laid::put_laid l = 2 * size-Tree l.tree.now

abbrev pub decreases-laid::put_first : goal.decreases-laid::put_first
decreases-laid::put_first l = 2 * size-Tree l.tree.now + 1

abbrev pub decreases-laid::put_group : goal.decreases-laid::put_group
decreases-laid::put_group l = 2 * size-Tree l.inner.now + 1

abbrev pub decreases-laid::put_part : goal.decreases-laid::put_part
decreases-laid::put_part l = 2 * size-Tree l.inner.now + 3

abbrev pub decreases-laid::put_node : goal.decreases-laid::put_node
decreases-laid::put_node l = 2 * size-Tree l.inner.now + 3

abbrev pub decreases-laid::put_so : goal.decreases-laid::put_so
decreases-laid::put_so l = 2 * size-Tree l.inner.now + 2

abbrev pub decreases-laid::put_parameter : goal.decreases-laid::put_parameter
decreases-laid::put_parameter l = 2 * size-Tree l.inner.now + 1

abbrev pub decreases-laid::put_firsts : goal.decreases-laid::put_firsts
decreases-laid::put_firsts l = 2 * size-Tree l.list.now + 1

abbrev pub decreases-laid::put_elements : goal.decreases-laid::put_elements
decreases-laid::put_elements l = 2 * most (λ x. size-Element x) l.before.now

abbrev pub decreases-laid::put_those : goal.decreases-laid::put_those
decreases-laid::put_those l = 2 * most (λ x. size-Element x) l.before.now

abbrev pub decreases-laid::put_others : goal.decreases-laid::put_others
decreases-laid::put_others l = 2 * most (λ x. size-Element x) l.before.now

abbrev pub decreases-turn::put_turns : goal.decreases-turn::put_turns
decreases-turn::put_turns l = 2 * most (λ x. size-Tree x) l.trees.now + 2

abbrev pub decreases-turn::put_turn : goal.decreases-turn::put_turn
decreases-turn::put_turn l = 2 * size-Tree l.turn.now + 1

abbrev pub decreases-expressed::put_statement : goal.decreases-expressed::put_statement
decreases-expressed::put_statement l = 2 * size-Tree l.inner.now + 1

abbrev pub decreases-expressed::put_before : goal.decreases-expressed::put_before
decreases-expressed::put_before l = 2 * (size-Tree l.before.now + size-Tree l.form.now) + 3

abbrev pub decreases-expressed::put_operand : goal.decreases-expressed::put_operand
decreases-expressed::put_operand l = 2 * size-Tree l.tree.now + 2

abbrev pub decreases-expressed::put_own : goal.decreases-expressed::put_own
decreases-expressed::put_own l = 2 * size-Tree l.own.now + 1

-- an operand, in parentheses or not, is put by another
abbrev pub decreases-expressed::put_back : goal.decreases-expressed::put_back
decreases-expressed::put_back l = 8 * (node_count l.two.now.front + node_count l.two.now.back) + 14

abbrev pub decreases-expressed::put_left : goal.decreases-expressed::put_left
decreases-expressed::put_left l = 8 * (node_count l.three.now.left + node_count l.three.now.own) + 14

-- operands that stand one left of the other
abbrev pub decreases-chain::put_chain : goal.decreases-chain::put_chain
decreases-chain::put_chain l = 2 * size-Tree l.tree.now + 1

abbrev pub decreases-chain::put_behinds : goal.decreases-chain::put_behinds
decreases-chain::put_behinds l = 2 * most (λ x. size-Tree x.now) l.forms.now

abbrev pub decreases-chain::put_behind : goal.decreases-chain::put_behind
decreases-chain::put_behind l = 8 * node_count l.form.now + 7

abbrev pub decreases-chain::put_given : goal.decreases-chain::put_given
decreases-chain::put_given l = 2 * (size-Tree l.attributes.now + size-Tree l.tree.now) + 2
