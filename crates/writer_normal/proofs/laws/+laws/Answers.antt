-- Turns and elements are smaller than what they stand in.
use Rattle.std.specs.Prelude.{List}
use Rattle.std.proofs.Common.{◌≡◌, ◌∙◌, arith, ap, refl, sym}
use Rattle.syn_grammar.specs.Tree as t
use Rattle.syn_grammar.specs.Tree.{Tree}
use Rattle.reader_table.specs.Ops.{separator_of}
use Rattle.reader_tree.specs.Forms.{elements, ending, tree_of, turns}
use Rattle.reader_tree.specs.Size.{node_count}
use Rattle.reader_tree.proofs.Sizes.{elements_below, tree_size, turns_size}
use Rattle.writer_normal.proofs.Inside.{last_below}
use Rattle.writer_normal.proofs.laws.+laws.Goals as goal

pub each_list-each_element-requires : goal.each_list-each_element-requires
each_list-each_element-requires n c =
    let list = c.args.list.now in
    let m = separator_of list.separator in
    let y : Tree = ending (λ b. b.now) list.last in
    let x : Tree = elements m list.before.now y in
    omega (arith, c.decreases, elements_below m list.before.now y x refl, tree_size x)

pub each_list-each_tree-requires : goal.each_list-each_tree-requires
each_list-each_tree-requires n c =
    let list = c.args.list.now in
    let m = separator_of list.separator in
    let x : Tree = elements m list.before.now (ending (λ b. b.now) list.last) in
    let is : x ≡ elements m list.before.now (t.Final c.in-Some.last.now) =
    ap (λ o. elements m list.before.now (ending (λ b. b.now) o)) c.in-Some.is in
    omega (
      arith,
      c.decreases,
      last_below m list.before.now c.in-Some.last.now x is,
      tree_size x,
      tree_size c.in-Some.last.now,
    )

pub each_tree-each_turn-requires : goal.each_tree-each_turn-requires
each_tree-each_turn-requires n c =
    let xs : List Tree = c.in-Turns.trees.now.each.now in
    let x : Tree = c.args.tree.now in
    let view : x ≡ turns xs = sym c.tree.view_is ∙ ap tree_of c.in-Turns.is in
    omega (arith, c.decreases, turns_size xs, ap node_count view, tree_size x)
