use Rattle.std.proofs.Common.{arith, ap, sym, ◌∙◌}
use Rattle.reader_tree.specs.Forms.{tree_of}
use Rattle.reader_tree.proofs.Sizes.{turns_below, list_below}
use Rattle.test_syn.proofs.built.change.+changed.Goals as goal

pub several_anew-turns_anew-each-requires : goal.several_anew-turns_anew-each-requires
several_anew-turns_anew-each-requires t c =
    let below = turns_below c.in-Turns.turns.now.each.now c.args.tree.now
    (sym c.tree.view_is ∙ ap tree_of c.in-Turns.is) in
    omega (arith, c.decreases, below)

pub several_anew-elements_anew-before-requires : goal.several_anew-elements_anew-before-requires
several_anew-elements_anew-before-requires t c =
    let below = list_below c.in-Elements.list.now c.args.tree.now (sym c.tree.view_is ∙ ap tree_of c.in-Elements.is) in
    omega (arith, c.decreases, below)
