-- What stands in turns and in elements has fewer nodes.
use Rattle.std.specs.Prelude.{◌≡◌, ℕ, ◌<◌, List, length, refl}
use Rattle.std.proofs.Common.{arith, get_or}
use Rattle.syn_grammar.specs.Tree as t
use Rattle.syn_grammar.specs.Tree.{Tree}
use Rattle.reader_tree.specs.declared.tree.Element.{Element}
use Rattle.reader_tree.specs.Forms.{elements, turns}
use Rattle.reader_tree.specs.Size.{node_count}
use Rattle.reader_tree.proofs.Sizes.{element_in, elements_below, tree_size, turn_in, turns_below}

pub turn_below : (xs : List Tree) (i : ℕ) (x : Tree) → i < length xs → x ≡ get_or xs i x
    → node_count x < node_count (turns xs)
turn_below xs i x h e =
    let all : Tree = turns xs in
    omega (arith, turn_in xs i x h e, turns_below xs all refl, tree_size x, tree_size all)

pub element_below : (es : List Element) (i : ℕ) (e : Element) → i < length es → e ≡ get_or es i e
    → node_count e.tree < node_count (elements 0 es t.End)
element_below es i e h d =
    let all : Tree = elements 0 es t.End in
    omega (arith, element_in es i e h d, elements_below 0 es t.End all refl, tree_size e.tree, tree_size all)
