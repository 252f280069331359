use Rattle.std.specs.Prelude.{ℕ, List}
use Rattle.std.proofs.Common.{◌≡◌, ◌+◌, arith, ap, sym, ◌∙◌, length}
use Rattle.std.proofs.lemmas.List.{length-append}
use Rattle.reader_table.specs.Ops.{separator_of}
use Rattle.syn_grammar.specs.Tree.{End}
use Rattle.syn_grammar.specs.Tree.{Tree, flat}
use Rattle.reader_tree.specs.declared.tree.Element.{Element}
use Rattle.reader_tree.specs.Forms.{tree_of, elements, ending}
use Rattle.reader_tree.proofs.Sizes.{turns_below, list_below}
use Rattle.reader_tree.proofs.Flat.{flat_elements}
use Rattle.reader_tree.proofs.count.+counting.Goals as goal

-- the elements that a mark follows are counted among all
among : (c : ℕ) (es : List Element) (y : Tree) → length (flat (elements c es y))
    ≡ length (flat (elements c es End)) + length (flat y)
among c es y = ap length (flat_elements c es y) ∙ length-append (flat (elements c es End)) (flat y)

pub past-past_turns-requires : goal.past-past_turns-requires
past-past_turns-requires t c =
    let is = sym c.tree.view_is ∙ ap tree_of c.in-Turns.is in
    let below = turns_below c.in-Turns.turns.now.each.now c.args.tree.now is in
    let counted = ap (λ (x : Tree). length (flat x)) is in
    (omega (arith, c.decreases, below), omega (arith, c.requires, counted))

pub past-past_elements-behind-requires : goal.past-past_elements-behind-requires
past-past_elements-behind-requires t c =
    let list = c.in-Elements.list.now in
    let mark : ℕ = separator_of list.separator in
    let last : Tree = ending (λ b. b.now) list.last in
    let is = sym c.tree.view_is ∙ ap tree_of c.in-Elements.is in
    let below = list_below list c.args.tree.now is in
    let counted = ap (λ (x : Tree). length (flat x)) is in
    (omega (arith, c.decreases, below), omega (arith, c.requires, counted, among mark list.before.now last))
