use Rattle.std.proofs.Common.{◌≡◌, ◌+◌, ◌*◌, drop, length}
use Rattle.std.specs.List.{list_any}
use Rattle.proc_macro2.specs.Flat.{group_tokens, tree_tokens, trees_tokens}
use Rattle.canon.specs.Places.{begins_with}
use Rattle.canon.proofs.stands.+walking.Given as goal

-- a tree has no more tokens than the trees among which it stands, and a group's stream has two fewer than the group
abbrev pub decreases-is_any_begun : goal.decreases-is_any_begun
decreases-is_any_begun l = 2 * length (trees_tokens l.trees.now) + 2

abbrev pub decreases-is_begun : goal.decreases-is_begun
decreases-is_begun l = 2 * length (tree_tokens l.tree.now) + 1

abbrev pub decreases-is_group_begun : goal.decreases-is_group_begun
decreases-is_group_begun l = 2 * length (group_tokens l.group.now)

-- the trees that are left tell as much as all of them
abbrev pub invariant-is_any_begun-loop-tree : goal.invariant-is_any_begun-loop-tree
invariant-is_any_begun-loop-tree l =
    list_any (λ tree. list_any (begins_with l.first) (tree_tokens tree)) (drop l.tree-index l.trees) ≡
    list_any (λ tree. list_any (begins_with l.first) (tree_tokens tree)) l.trees
