use Rattle.std.proofs.Common.{◌≡◌, ap, inl, inr, sym, true≢false, ◌∙◌}
use denote.Ref.{Bor}
use Rattle.syn_grammar.specs.Tree.{Tree}
use Rattle.reader_table.specs.Ops.{separator_of}
use Rattle.reader_tree.specs.Forms.{tree_of, turns}
use Rattle.tree_equal.proofs.Lefts.{elements_left, list_other, no_elements, none_same}
use Rattle.tree_equal.proofs.Sorts.{AList, apart, no_list, not_one, sort_elements}
use Rattle.tree_equal.proofs.rest.elements.Goals as goal

pub returns-then-are_alike : goal.returns-then-are_alike
returns-then-are_alike c =
    let list = c.args.list.now in
    let other = c.in-Elements.other.now in
    elements_left (λ (b : Bor Tree). b.now) (separator_of list.separator) (separator_of other.separator)
    list.before.now other.before.now list.last other.last c.args.tree.now
    (c.are_alike.ensures.0 c.if-are_alike.true) (sym (ap tree_of c.in-Elements.is) ∙ c.tree.view_is)

pub returns-else-are_alike : goal.returns-else-are_alike
returns-else-are_alike c =
    let list = c.args.list.now in
    let other = c.in-Elements.other.now in
    not_one
    (λ e. list_other (λ (b : Bor Tree). b.now) (separator_of list.separator) (separator_of other.separator)
    list.before.now other.before.now list.last other.last
    (λ h. true≢false (sym (c.are_alike.ensures.1 (inl h)) ∙ c.if-are_alike.false))
    (λ h. true≢false (sym (c.are_alike.ensures.1 (inr h)) ∙ c.if-are_alike.false))
    (e ∙ sym c.tree.view_is ∙ ap tree_of c.in-Elements.is))

pub returns-in-Turns : goal.returns-in-Turns
returns-in-Turns c =
    let f = λ (b : Bor Tree). b.now in
    let list = c.args.list.now in
    let mark = separator_of list.separator in
    let xs = c.in-Turns.turns.now.each.now in
    let view : c.args.tree.now ≡ turns xs = sym c.tree.view_is ∙ ap tree_of c.in-Turns.is in (
      λ e. sym (none_same f xs mark list.before.now list.last (c.are_none-in-Turns.ensures.0 e)) ∙ sym view,
      λ e. c.are_none-in-Turns.ensures.1 (no_elements f xs mark list.before.now list.last (sym view ∙ sym e)),
    )

pub returns-in-End : goal.returns-in-End
returns-in-End c =
    let f = λ (b : Bor Tree). b.now in
    let list = c.args.list.now in
    let mark = separator_of list.separator in
    let xs = c.no_turn.result.now in
    let view : c.args.tree.now ≡ turns xs =
    sym c.tree.view_is ∙ ap tree_of c.in-End.is ∙ sym (ap turns c.no_turn.ensures) in (
      λ e. sym (none_same f xs mark list.before.now list.last (c.are_none.ensures.0 e)) ∙ sym view,
      λ e. c.are_none.ensures.1 (no_elements f xs mark list.before.now list.last (sym view ∙ sym e)),
    )

pub returns-in_default : goal.returns-in_default
returns-in_default c =
    let list = c.args.list.now in
    not_one
    (apart _ _ _ AList c.tree.view_is
    (sort_elements (separator_of list.separator) list.before.now (λ (b : Bor Tree). b.now) list.last)
    (no_list _ c.in_default.not-End c.in_default.not-Turns c.in_default.not-Elements))
