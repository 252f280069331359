use Rattle.std.proofs.Common.{◌≡◌, ◌+◌, ◌*◌, length, take}
use Rattle.std.specs.Fmt.{HasWritten, IsPlainFormatter}
use Rattle.proc_macro2.specs.Flat.{group_tokens, tree_tokens, trees_tokens}
use Rattle.proc_macro2.specs.Printed.{printed}
use Rattle.proc_macro2.specs.Shown.{hugs_last}
use Rattle.proc_macro2.specs.Token.{plain}
use Rattle.proc_macro2.proofs.print.+printing.Given as goal

-- a tree has no more tokens than its stream, and the stream of a group two fewer than the group
abbrev pub decreases-write_stream : goal.decreases-write_stream
decreases-write_stream g l = 4 * length l.stream.now + 3

abbrev pub decreases-write_next : goal.decreases-write_next
decreases-write_next g l = 4 * length (tree_tokens l.tree.now) + 2

abbrev pub decreases-write_tree : goal.decreases-write_tree
decreases-write_tree g l = 4 * length (tree_tokens l.tree.now) + 1

abbrev pub decreases-write_group : goal.decreases-write_group
decreases-write_group g l = 4 * length (group_tokens l.group.now)

abbrev pub invariant-write_stream-loop-tree : goal.invariant-write_stream-loop-tree
invariant-write_stream-loop-tree g l = record {
  written : IsPlainFormatter l.initial.f
      → HasWritten g.W.Write.write_str_gives l.initial.f (printed (trees_tokens (take l.tree-index l.tree-items))) l.f;
  joint : l.close ≡ hugs_last (plain (trees_tokens (take l.tree-index l.tree-items)));
}
