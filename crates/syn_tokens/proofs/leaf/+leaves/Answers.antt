use Rattle.std.proofs.Common.{arith, ap, sym, ◌∙◌}
use Rattle.std.proofs.lemmas.Grind.{common_steps}
use Rattle.reader_tree.specs.Forms.{tree_of}
use Rattle.reader_tree.proofs.Sizes.{element_in, turn_in, list_below, turns_below}
use Rattle.writer_rules.proofs.Fronts.{keeps_both}
use Rattle.syn_tokens.proofs.Leaves.{puts}
use Rattle.syn_tokens.proofs.leaf.+leaves.Goals as goal

pub put_leaves-put_turns-requires : goal.put_leaves-put_turns-requires
put_leaves-put_turns-requires t c =
    let below = turns_below c.in-Turns.turns.now.each.now c.args.tree.now
    (sym c.tree.view_is ∙ ap tree_of c.in-Turns.is) in
    omega (arith, c.decreases, below)

pub put_leaves-put_elements-requires : goal.put_leaves-put_elements-requires
put_leaves-put_elements-requires t c =
    let below = list_below c.in-Elements.list.now c.args.tree.now (sym c.tree.view_is ∙ ap tree_of c.in-Elements.is) in
    omega (arith, c.decreases, below)

pub put_turns-put_leaves-requires : goal.put_turns-put_leaves-requires
put_turns-put_leaves-requires n c =
    let below = turn_in c.args.trees.now c.loop-tree.tree-index c.tree-item.result
    c.loop-tree-test.true c.tree-item.is in
    omega (arith, c.decreases, below)

pub put_elements-put_leaves-requires : goal.put_elements-put_leaves-requires
put_elements-put_leaves-requires n c =
    let below = element_in c.args.before.now c.loop-element.element-index c.element-item.result
    c.loop-element-test.true c.element-item.is in
    omega (arith, c.decreases, below)

-- one more of them has been put
pub put_turns-loop-tree-preserved : goal.put_turns-loop-tree-preserved
put_turns-loop-tree-preserved n c = record {
  kept = keeps_both _ _ _ c.loop-tree.invariant.kept c.put_leaves.ensures.keeps;
  put = grind (arith, common_steps, puts);
}

pub put_elements-loop-element-preserved : goal.put_elements-loop-element-preserved
put_elements-loop-element-preserved n c = record {
  kept = keeps_both _ _ _ (keeps_both _ _ _ c.loop-element.invariant.kept c.put_leaves.ensures.keeps)
      c.put.ensures.keeps;
  put = grind (arith, common_steps, puts);
}
