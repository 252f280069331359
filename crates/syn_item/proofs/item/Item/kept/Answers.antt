use Rattle.std.specs.Prelude.{◌≡◌}
use Rattle.std.proofs.Common.{◌∙◌, ap, subst, sym}
use Rattle.syn_part.specs.Shape.{IsShaped}
use Rattle.syn_grammar.specs.Gram as g
use Rattle.syn_grammar.specs.Lists.{item_form}
use Rattle.syn_grammar.specs.Name as n
use Rattle.syn_grammar.specs.Tree as t
use Rattle.syn_item.proofs.ItemKinds.{no_kept}
use Rattle.syn_item.specs.ItemForms.{MayBeKept, form_behind}
use Rattle.syn_item.proofs.item.Item.kept.Goals as goal

pub returns-in_default-form_of : goal.returns-in_default-form_of
returns-in_default-form_of c = λ a b m h.
    let e : c.args.tree.now ≡ t.Pair c.in-Some.field-0-0.now (t.Pair c.in-Some.field-0-1.now
    (t.Called n.the_item c.in-Some-part.item.now)) =
    c.in-Some.ensures ∙ ap (λ y. t.Pair c.in-Some.field-0-0.now (t.Pair c.in-Some.field-0-1.now y))
    c.in-Some-part.ensures in
    no_kept c.in-Some-part.item.now c.choice-tree.result.now item_form c.choice-tree.ensures
    (c.in_default-form_of.ensures (subst MayBeKept (sym c.choice-tree.ensures)
    (subst (λ z. MayBeKept (form_behind z)) e m)))
    (subst (λ z. IsShaped z (g.seq a (g.seq b (g.called n.the_item item_form)))) e h).1.1.1
