-- What is left to be counted of a tree, and how many tokens that has.
use Rattle.std.specs.Prelude.{ℕ, suc, ◌*◌, ◌+◌, List, [], ◌∷◌, length, sum_by}
use Rattle.syn_grammar.specs.Tree.{Tree, flat}
use Rattle.reader_table.specs.Ops.{separator_of}
use Rattle.reader_tree.specs.Forms.{elements, ending}
use Rattle.reader_tree.specs.Size.{node_count}
use Rattle.reader_tree.specs.declared.tree.Element.{Element}
use Rattle.reader_tree.specs.declared.tree.Separated.{Separated}
use Rattle.reader_rust.specs.declared.count.Left.{Left}
use Rattle.reader_rust.specs.declared.count.Left.TheVariants as lefts

-- how many tokens turns have, and of how many nodes they are made
abbrev pub turn_tokens : List Tree → ℕ
turn_tokens [] = 0
turn_tokens (x ∷ xs) = length (flat x) + turn_tokens xs

abbrev pub turn_nodes : List Tree → ℕ
turn_nodes [] = 0
turn_nodes (x ∷ xs) = suc (node_count x + turn_nodes xs)

-- the same of elements, each with the mark behind it
abbrev pub element_tokens : List Element → ℕ
element_tokens [] = 0
element_tokens (e ∷ es) = length (flat e.tree) + 1 + element_tokens es

abbrev pub element_nodes : List Element → ℕ
element_nodes [] = 0
element_nodes (e ∷ es) = suc (node_count e.tree + element_nodes es)

-- the tree of a list: its elements, and a last one
abbrev pub list_tree : Separated → Tree
list_tree list = elements (separator_of list.separator) list.before.now (ending (λ b. b.now) list.last)

-- what is left has so many tokens
abbrev pub tokens_of : Left → ℕ
tokens_of (lefts.Tree x) = length (flat x.now)
tokens_of (lefts.Turns xs) = turn_tokens xs.now
tokens_of (lefts.Elements es) = element_tokens es.now

abbrev pub tokens_left : List Left → ℕ
tokens_left ws = sum_by tokens_of ws

-- it weighs more than what it is taken apart into
abbrev pub weight_of : Left → ℕ
weight_of (lefts.Tree x) = 5 * node_count x.now + 2
weight_of (lefts.Turns xs) = 5 * turn_nodes xs.now + 1
weight_of (lefts.Elements es) = 5 * element_nodes es.now + 1

abbrev pub weight_left : List Left → ℕ
weight_left ws = sum_by weight_of ws
