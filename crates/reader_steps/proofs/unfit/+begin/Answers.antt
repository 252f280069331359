use Rattle.std.proofs.Common.{arith, ap, sym, ◌∙◌}
use Rattle.reader_tree.specs.Forms.{tree_of}
use Rattle.reader_tree.proofs.Sizes.{turns_below, list_below}
use Rattle.reader_steps.proofs.unfit.+begin.Goals as goal

pub begin-begin_of_turns-requires : goal.begin-begin_of_turns-requires
begin-begin_of_turns-requires t c =
    let below = turns_below c.in-Turns.turns.now.each.now c.args.tree.now
    (sym c.tree.view_is ∙ ap tree_of c.in-Turns.is) in
    omega (arith, c.decreases, below)

pub begin-begin_of_elements-requires : goal.begin-begin_of_elements-requires
begin-begin_of_elements-requires t c =
    let below = list_below c.in-Elements.list.now c.args.tree.now (sym c.tree.view_is ∙ ap tree_of c.in-Elements.is) in
    omega (arith, c.decreases, below)
