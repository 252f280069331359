use Rattle.std.proofs.Common.{◌+◌, ◌*◌, length}
use Rattle.proc_macro2.specs.Flat.{group_tokens, tree_tokens}
use Rattle.proc_macro2.proofs.debug.+showing.Given as goal

-- a tree has no more tokens than its stream, and the stream of a group two fewer than the group
abbrev pub decreases-show_stream : goal.decreases-show_stream
decreases-show_stream g l = 2 * length l.stream.now + 2

abbrev pub decreases-show_tree : goal.decreases-show_tree
decreases-show_tree g l = 2 * length (tree_tokens l.tree.now) + 1

abbrev pub decreases-show_group : goal.decreases-show_group
decreases-show_group g l = 2 * length (group_tokens l.group.now)
