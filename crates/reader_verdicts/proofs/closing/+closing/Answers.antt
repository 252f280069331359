use Rattle.std.specs.Prelude.{List, Option, Bool}
use Rattle.std.proofs.Common.{◌≡◌, arith, ap, sym, ◌∙◌, ◌<◌, ◌+◌, length, get_or, drop}
use Rattle.syn_grammar.specs.Tree.{Tree, flat}
use Rattle.reader_tree.specs.Forms.{tree_of, turns}
use Rattle.reader_tree.proofs.Sizes.{turns_below}
use Rattle.reader_verdicts.specs.Closing.{ending, later}
use Rattle.reader_verdicts.proofs.Ends.{ending_turn}
use Rattle.reader_verdicts.proofs.closing.+closing.Goals as goal

pub ending-ending_of_turns-requires : goal.ending-ending_of_turns-requires
ending-ending_of_turns-requires t c =
    let below = turns_below c.in-Turns.turns.now.each.now c.args.tree.now
    (sym c.tree.view_is ∙ ap tree_of c.in-Turns.is) in
    omega (arith, c.decreases, below)

pub ending_of_turns-loop-tree-preserved : goal.ending_of_turns-loop-tree-preserved
ending_of_turns-loop-tree-preserved t c =
    let xs : List Tree = c.args.trees.now in
    let x : Tree = c.tree-item.result in
    let h : c.loop-tree.tree-index < length xs = c.loop-tree-test.true in
    let e : x ≡ get_or xs c.loop-tree.tree-index x = c.tree-item.is in
    ap (λ (o : Option Bool). later o (ending (flat (turns (drop (c.loop-tree.tree-index + 1) xs)))))
    (c.later-found.ensures ∙ ap (later c.loop-tree.found) c.ending.ensures)
    ∙ ending_turn xs c.loop-tree.tree-index x c.loop-tree.found h e ∙ c.loop-tree.invariant
