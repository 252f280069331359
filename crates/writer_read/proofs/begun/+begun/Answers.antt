use Rattle.std.specs.Prelude.{List, Option, Bool, Some}
use Rattle.std.proofs.Common.{◌≡◌, arith, ap, sym, ◌∙◌, ◌<◌, ◌+◌, length, get_or, drop, rules}
use Rattle.syn_grammar.specs.Tree.{Tree, flat}
use Rattle.reader_tree.specs.Forms.{tree_of, turns}
use Rattle.reader_tree.proofs.Sizes.{turn_in, turns_below}
use Rattle.writer_rules.specs.Turns.{begun, earlier}
use Rattle.writer_read.proofs.Begins.{turn_first}
use Rattle.writer_read.proofs.begun.+begun.Goals as goal

pub begun-begun_turns-requires : goal.begun-begun_turns-requires
begun-begun_turns-requires t c =
    let below = turns_below c.in-Turns.turns.now.each.now c.args.tree.now
    (sym c.tree.view_is ∙ ap tree_of c.in-Turns.is) in
    omega (arith, c.decreases, below)

pub begun_turns-returns-in-Some : goal.begun_turns-returns-in-Some
begun_turns-returns-in-Some t c =
    let xs : List Tree = c.args.trees.now in
    let x : Tree = c.tree-item.result in
    let h : c.loop-tree.tree-index < length xs = c.loop-tree-test.true in
    let e : x ≡ get_or xs c.loop-tree.tree-index x = c.tree-item.is in
    let f : Some c.in-Some.opens ≡ begun (flat x) = search rules in
    ap (λ (o : Option Bool). earlier o (begun (flat (turns (drop (c.loop-tree.tree-index + 1) xs))))) f
    ∙ sym (turn_first xs c.loop-tree.tree-index x h e) ∙ c.loop-tree.invariant

pub begun_turns-begun-requires : goal.begun_turns-begun-requires
begun_turns-begun-requires n c =
    let below = turn_in c.args.trees.now c.loop-tree.tree-index c.tree-item.result
    c.loop-tree-test.true c.tree-item.is in
    omega (arith, c.decreases, below)
