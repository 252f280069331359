-- The trees in a list are smaller than the list.
use Rattle.std.specs.Prelude.{ℕ, ◌≤◌, ◌<◌, ◌+◌, ◌*◌, max}
use Rattle.std.proofs.Common.{◌≡◌, refl, List, [], ◌∷◌, arith, ap, length, get_or}
use denote.Param.Weighed.{at_most, most}
use Rattle.syn_grammar.specs.Tree.{Tree}
use Rattle.reader_table.specs.Ops.{separator_of}
use Rattle.reader_tree.specs.declared.tree.Element.{Element}
use Rattle.reader_tree.specs.declared.tree.Separated.{Separated}
use Rattle.reader_tree.specs.declared.tree.Tree.TheDeep.{size-Tree, size-Element}
use Rattle.reader_tree.specs.Forms.{turns, elements, ending}
use Rattle.reader_tree.specs.Size.{node_count}

-- the size of a tree, and of an element, as it is counted
pub tree_size : (x : Tree) → size-Tree x ≡ 4 * (node_count x + 1) + 0
tree_size x = refl

pub element_size : (e : Element) → size-Element e ≡ 4 * max (node_count e.tree + 1) 0 + 1
element_size e = refl

pub turns_size : (xs : List Tree) → most (λ x. size-Tree x) xs ≤ 4 * node_count (turns xs)
turns_size [] = omega arith
turns_size (x ∷ xs) = omega (arith, turns_size xs, tree_size x)

elements_size : (c : ℕ) (es : List Element) (y : Tree)
    → most (λ e. size-Element e) es ≤ 4 * node_count (elements c es y) + 1
elements_size c [] y = omega arith
elements_size c (e ∷ es) y = omega (arith, elements_size c es y, element_size e)

-- what is one of turns, or is held by one of elements, is no larger than the largest of them
pub turn_in : (xs : List Tree) (i : ℕ) (x : Tree) → i < length xs → x ≡ get_or xs i x
    → size-Tree x ≤ most (λ x. size-Tree x) xs
turn_in xs i x h e =
    omega (arith, at_most (λ (y : Tree). size-Tree y) xs i x h, ap (λ (y : Tree). size-Tree y) e)

pub element_in : (es : List Element) (i : ℕ) (e : Element) → i < length es → e ≡ get_or es i e
    → size-Tree e.tree < most (λ e. size-Element e) es
element_in es i e h is =
    let below = at_most (λ (f : Element). size-Element f) es i e h in
    omega (arith, below, ap (λ (f : Element). size-Element f) is, element_size e, tree_size e.tree)

-- a tree that is turns, or elements, is larger than each of them
pub turns_below : (xs : List Tree) (x : Tree) → x ≡ turns xs → most (λ x. size-Tree x) xs < size-Tree x
turns_below xs x e = omega (arith, turns_size xs, ap node_count e, tree_size x)

pub elements_below : (c : ℕ) (es : List Element) (y x : Tree) → x ≡ elements c es y
    → most (λ e. size-Element e) es < size-Tree x
elements_below c es y x e = omega (arith, elements_size c es y, ap node_count e, tree_size x)

pub list_below : (list : Separated) (x : Tree)
    → x ≡ elements (separator_of list.separator) list.before.now (ending (λ b. b.now) list.last)
    → most (λ e. size-Element e) list.before.now < size-Tree x
list_below list x e =
    elements_below (separator_of list.separator) list.before.now (ending (λ b. b.now) list.last) x e
