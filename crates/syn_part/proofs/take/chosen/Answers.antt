use Rattle.std.proofs.Common.{◌∙◌, ap, subst, sym}
use Rattle.reader_tree.specs.Forms.{tree_of}
use Rattle.syn_grammar.specs.Gram.{alt}
use Rattle.syn_part.specs.Shape.{IsShaped}
use Rattle.syn_part.proofs.Takes.{second_chosen}
use Rattle.syn_part.proofs.take.chosen.Goals as goal

pub returns-else-depth-eq0-2 : goal.returns-else-depth-eq0-2
returns-else-depth-eq0-2 c = λ test a b m h.
    second_chosen c.in-Second.depth c.in-Second.inner.now test a b c.if-depth-eq0-2.false m
    (subst (λ z. IsShaped z (alt test a b)) (sym c.tree.view_is ∙ ap tree_of c.in-Second.is) h)
