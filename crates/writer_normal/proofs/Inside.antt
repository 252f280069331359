-- What a list ends with is smaller.
use Rattle.std.specs.Prelude.{◌≡◌, ◌<◌, ℕ, List}
use Rattle.std.proofs.Common.{ap, arith}
use Rattle.syn_grammar.specs.Tree as t
use Rattle.syn_grammar.specs.Tree.{Tree}
use Rattle.reader_tree.specs.declared.tree.Element.{Element}
use Rattle.reader_tree.specs.declared.tree.Tree.TheDeep.{size-Tree}
use Rattle.reader_tree.specs.Forms.{elements}
use Rattle.reader_tree.specs.Size.{node_count}
use Rattle.reader_tree.proofs.Sizes.{tree_size}
use Rattle.writer_rules.proofs.Putting.{last_below as last_in}

pub last_below : (c : ℕ) (es : List Element) (x y : Tree) → y ≡ elements c es (t.Final x) → size-Tree x < size-Tree y
last_below c es x y e = omega (arith, last_in c es x, ap node_count e, tree_size x, tree_size y)
