use Rattle.std.proofs.Common.{ap, arith, refl, sym, ◌∙◌}
use Rattle.reader_tree.specs.Forms.{tree_of}
use Rattle.tree_equal.proofs.Lefts.{first_before, no_first, second_before, second_behind, second_left}
use Rattle.tree_equal.proofs.Sorts.{AChoice, apart, no_choice, not_one}
use Rattle.tree_equal.proofs.rest.+second.Goals as goal

pub returns-then-depth-other : goal.returns-then-depth-other
returns-then-depth-other n c =
    first_before c.args.depth c.in-First.other c.args.inner.now c.in-First.y.now c.args.tree.now c.first.result
    c.if-depth-other.true (sym (ap tree_of c.in-First.is) ∙ c.tree.view_is) c.first.ensures

pub returns-else-depth-other : goal.returns-else-depth-other
returns-else-depth-other n c = not_one
    (λ e. no_first c.in-First.other c.args.depth c.in-First.y.now c.args.inner.now c.if-depth-other.false
    (sym (ap tree_of c.in-First.is) ∙ c.tree.view_is ∙ sym e))

pub returns-then-depth-other-2 : goal.returns-then-depth-other-2
returns-then-depth-other-2 n c =
    second_left c.args.depth c.in-Second.other c.args.inner c.in-Second.y c.args.tree.now
    (sym (ap tree_of c.in-Second.is) ∙ c.tree.view_is) c.if-depth-other-2.true

pub returns-then-depth-other-3 : goal.returns-then-depth-other-3
returns-then-depth-other-3 n c =
    second_before c.args.depth c.in-Second.other c.args.inner.now c.in-Second.y.now c.args.tree.now c.second.result
    c.if-depth-other-3.true (sym (ap tree_of c.in-Second.is) ∙ c.tree.view_is) c.second.ensures

pub returns-else-depth-other-3 : goal.returns-else-depth-other-3
returns-else-depth-other-3 n c =
    second_behind c.args.depth c.in-Second.other c.args.inner.now c.in-Second.y.now c.args.tree.now
    c.second-else-depth-other-3.result (omega arith) (sym (ap tree_of c.in-Second.is) ∙ c.tree.view_is)
    c.second-else-depth-other-3.ensures

pub returns-in_default : goal.returns-in_default
returns-in_default n c = not_one
    (apart _ _ _ AChoice c.tree.view_is refl (no_choice _ c.in_default.not-First c.in_default.not-Second))
