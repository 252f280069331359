use Rattle.std.proofs.Common.{ap, sym, ◌∙◌}
use Rattle.reader_tree.specs.Forms.{tree_of}
use Rattle.tree_equal.proofs.Lefts.{first_behind, first_left, first_other, no_first}
use Rattle.tree_equal.proofs.Sorts.{AChoice, apart, no_choice, not_one, sort_first}
use Rattle.tree_equal.proofs.rest.+first.Goals as goal

pub returns-then-depth-other : goal.returns-then-depth-other
returns-then-depth-other n c =
    first_left c.args.depth c.in-First.other c.args.inner c.in-First.y c.args.tree.now
    (sym (ap tree_of c.in-First.is) ∙ c.tree.view_is) c.if-depth-other.true

pub returns-else-depth-other : goal.returns-else-depth-other
returns-else-depth-other n c = not_one
    (first_other c.args.depth c.in-First.other c.args.inner.now c.in-First.y.now c.args.tree.now
    (sym (ap tree_of c.in-First.is) ∙ c.tree.view_is) c.if-depth-other.false)

pub returns-then-other-depth : goal.returns-then-other-depth
returns-then-other-depth n c =
    first_behind c.args.depth c.in-Second.other c.args.inner.now c.in-Second.y.now c.args.tree.now c.first.result
    c.if-other-depth.true (sym (ap tree_of c.in-Second.is) ∙ c.tree.view_is) c.first.ensures

pub returns-else-other-depth : goal.returns-else-other-depth
returns-else-other-depth n c = not_one
    (λ e. no_first c.args.depth c.in-Second.other c.args.inner.now c.in-Second.y.now c.if-other-depth.false
    (e ∙ sym c.tree.view_is ∙ ap tree_of c.in-Second.is))

pub returns-in_default : goal.returns-in_default
returns-in_default n c = not_one
    (apart _ _ _ AChoice c.tree.view_is (sort_first c.args.depth c.args.inner.now)
    (no_choice _ c.in_default.not-First c.in_default.not-Second))
