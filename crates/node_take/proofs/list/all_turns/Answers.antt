use Rattle.std.proofs.Common.{◌∙◌, ap, subst, sym}
use Rattle.reader_tree.specs.Forms.{tree_of, turns}
use Rattle.syn_grammar.specs.Gram.{star}
use Rattle.node_shapes.specs.Shape.{IsShaped}
use Rattle.node_take.proofs.Takes.{no_turns_form}
use Rattle.node_take.proofs.list.all_turns.Goals as goal

pub returns-in_default : goal.returns-in_default
returns-in_default c =
    sym c.tree.view_is
    ∙ no_turns_form c.tree.inside.form c.in_default.not-Turns c.requires.0 c.requires.1
    (subst (λ x. IsShaped x (star c.requires.0 c.requires.1)) (sym c.tree.view_is) c.requires.2)
    ∙ sym (ap turns c.no_turns.ensures)
