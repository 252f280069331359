use Rattle.std.proofs.Common.{◌≤◌, length}
use Rattle.proc_macro2.specs.Flat.{trees_tokens}
use Rattle.proc_macro2.proofs.+dropping.Given as goal

abbrev pub decreases-tree::TokenStream::drop : goal.decreases-tree::TokenStream::drop
decreases-tree::TokenStream::drop l = goal.size-tree::TokenStream::drop l

abbrev pub invariant-tree::TokenStream::drop-loop-tree : goal.invariant-tree::TokenStream::drop-loop-tree
invariant-tree::TokenStream::drop-loop-tree l =
    length (trees_tokens l.pending.items) ≤ length (trees_tokens l.initial.pending.items)

abbrev pub decreases-tree::TokenStream::drop-loop-tree : goal.decreases-tree::TokenStream::drop-loop-tree
decreases-tree::TokenStream::drop-loop-tree l = length (trees_tokens l.pending.items)
