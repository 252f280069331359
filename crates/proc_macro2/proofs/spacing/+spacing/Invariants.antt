use Rattle.std.proofs.Common.{◌≡◌, ◌+◌, ◌*◌, [], drop, length}
use Rattle.proc_macro2.specs.Flat.{group_tokens, tree_tokens, trees_tokens}
use Rattle.proc_macro2.specs.Stands.{all_stand}
use Rattle.proc_macro2.specs.Token.{plain}
use Rattle.proc_macro2.proofs.spacing.+spacing.Given as goal

-- a tree has no more tokens than its stream, and the stream of a group two fewer than the group
abbrev pub decreases-stream_stands : goal.decreases-stream_stands
decreases-stream_stands l = 2 * length l.stream.now + 2

abbrev pub decreases-tree_stands : goal.decreases-tree_stands
decreases-tree_stands l = 2 * length (tree_tokens l.tree.now) + 1

abbrev pub decreases-group_stands : goal.decreases-group_stands
decreases-group_stands l = 2 * length (group_tokens l.group.now)

abbrev pub invariant-stream_stands-loop-tree : goal.invariant-stream_stands-loop-tree
invariant-stream_stands-loop-tree l = record {
  behind : l.behind ≡ l.tree-index;
  left : all_stand (plain (trees_tokens l.trees)) []
      ≡ all_stand (plain (trees_tokens (drop l.tree-index l.trees))) [];
}
