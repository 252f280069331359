use Rattle.std.proofs.Common.{◌≡◌, ◌+◌, ◌*◌, length, take}
use Rattle.proc_macro2.specs.Flat.{group_tokens, tree_tokens, trees_tokens}
use Rattle.syn_buffer.specs.Puts.{Puts}
use Rattle.syn_buffer.specs.Seen.{all_seen}
use Rattle.syn_buffer.proofs.buffer.+walking.Given as goal

-- a group is shorter than the trees among which it stands, and its stream than the group
abbrev pub decreases-put_trees : goal.decreases-put_trees
decreases-put_trees l = 3 * length (trees_tokens l.trees.now) + 2

abbrev pub decreases-put_tree : goal.decreases-put_tree
decreases-put_tree l = 3 * length (tree_tokens l.tree.now) + 1

abbrev pub decreases-put_group : goal.decreases-put_group
decreases-put_group l = 3 * length (group_tokens l.group.now)

-- the trees so far have been put, and it is known whether all of them are seen
abbrev pub invariant-put_trees-loop-tree : goal.invariant-put_trees-loop-tree
invariant-put_trees-loop-tree l =
    Puts l.initial.entries.items l.entries.items (trees_tokens (take l.tree-index l.trees))
    × (l.all_visible ≡ all_seen (trees_tokens (take l.tree-index l.trees)))
