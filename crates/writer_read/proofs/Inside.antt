-- What a tree ends with is smaller.
use Rattle.std.specs.Prelude.{◌≡◌, ◌<◌, ◌≤◌, ℕ, zero, suc}
use Rattle.std.proofs.Common.{ap, arith}
use Rattle.syn_grammar.specs.Tree as t
use Rattle.syn_grammar.specs.Tree.{Tree}
use Rattle.reader_tree.specs.declared.tree.Tree.TheDeep.{size-Tree}
use Rattle.reader_tree.specs.Forms.{seconds}
use Rattle.reader_tree.specs.Size.{node_count}
use Rattle.reader_tree.proofs.Sizes.{tree_size}

-- behind so many seconds
seconds_in : (n : ℕ) (x : Tree) → node_count x ≤ node_count (seconds n x)
seconds_in zero x = omega arith
seconds_in (suc n) x = omega (arith, seconds_in n x)

pub first_below : (n : ℕ) (x y : Tree) → y ≡ seconds n (t.First x) → size-Tree x < size-Tree y
first_below n x y e = omega (arith, seconds_in n (t.First x), ap node_count e, tree_size x, tree_size y)

pub second_below : (n : ℕ) (x y : Tree) → y ≡ t.Second (seconds n x) → size-Tree x < size-Tree y
second_below n x y e = omega (arith, seconds_in n x, ap node_count e, tree_size x, tree_size y)
