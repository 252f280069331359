use Rattle.std.proofs.Common.{◌≡◌, ap, sym, ◌∙◌}
use denote.Ref.{Bor}
use Rattle.syn_grammar.specs.Tree.{Tree}
use Rattle.reader_table.specs.Ops.{separator_of}
use Rattle.reader_tree.specs.Forms.{elements, ending, tree_of, turns}
use Rattle.tree_equal.proofs.Lefts.{no_elements, none_same, turns_left}
use Rattle.tree_equal.proofs.Sorts.{AList, apart, no_list, not_one, sort_turns}
use Rattle.tree_equal.proofs.rest.turns.Goals as goal

pub returns-in-Turns : goal.returns-in-Turns
returns-in-Turns c =
    turns_left c.args.turns.now c.in-Turns.others.now.each.now c.args.tree.now
    (sym (ap tree_of c.in-Turns.is) ∙ c.tree.view_is)

pub returns-in-End : goal.returns-in-End
returns-in-End c =
    turns_left c.args.turns.now c.no_turn.result.now c.args.tree.now
    (ap turns c.no_turn.ensures ∙ sym (ap tree_of c.in-End.is) ∙ c.tree.view_is)

pub returns-in-Elements : goal.returns-in-Elements
returns-in-Elements c =
    let f = λ (b : Bor Tree). b.now in
    let list = c.in-Elements.list.now in
    let mark = separator_of list.separator in
    let xs = c.args.turns.now in
    let view : c.args.tree.now ≡ elements mark list.before.now (ending f list.last) =
    sym c.tree.view_is ∙ ap tree_of c.in-Elements.is in (
      λ e. none_same f xs mark list.before.now list.last (c.are_none.ensures.0 e) ∙ sym view,
      λ e. c.are_none.ensures.1 (no_elements f xs mark list.before.now list.last (e ∙ view)),
    )

pub returns-in_default : goal.returns-in_default
returns-in_default c = not_one
    (apart _ _ _ AList c.tree.view_is (sort_turns c.args.turns.now)
    (no_list _ c.in_default.not-End c.in_default.not-Turns c.in_default.not-Elements))
