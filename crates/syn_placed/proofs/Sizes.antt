-- What was chosen is smaller than the choice.
use Rattle.std.specs.Prelude.{ℕ, zero, suc, ◌≤◌, ◌<◌}
use Rattle.std.proofs.Common.{◌≡◌, arith, ap}
use Rattle.syn_grammar.specs.Tree as t
use Rattle.syn_grammar.specs.Tree.{Tree}
use Rattle.reader_tree.specs.declared.tree.Tree.TheDeep.{size-Tree}
use Rattle.reader_tree.specs.Forms.{seconds}
use Rattle.reader_tree.specs.Size.{node_count}
use Rattle.reader_tree.proofs.Sizes.{tree_size}

seconds_le : (n : ℕ) (x : Tree) → node_count x ≤ node_count (seconds n x)
seconds_le zero x = omega arith
seconds_le (suc n) x = omega (arith, seconds_le n x)

pub first_below : (n : ℕ) (w x : Tree) → w ≡ seconds n (t.First x) → size-Tree x < size-Tree w
first_below n w x e = omega (arith, tree_size x, tree_size w, ap node_count e, seconds_le n (t.First x))

pub second_below : (n : ℕ) (w x : Tree) → w ≡ t.Second (seconds n x) → size-Tree x < size-Tree w
second_below n w x e = omega (arith, tree_size x, tree_size w, ap node_count e, seconds_le n x)
