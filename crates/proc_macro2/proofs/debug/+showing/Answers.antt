use Rattle.std.proofs.Common.{rules, arith, ap, length}
use Rattle.proc_macro2.specs.Flat.{tree_tokens}
use Rattle.proc_macro2.specs.declared.tree.TokenTree.{TokenTree}
use Rattle.proc_macro2.proofs.Views.{tree_length}
use Rattle.proc_macro2.proofs.debug.+showing.Goals as goal

pub show_stream-show_tree-requires : goal.show_stream-show_tree-requires
show_stream-show_tree-requires g t c κs within =
    let items = c.trees-tree-items.result.now in
    let x : TokenTree = c.tree-item.result in
    let whole = ap length c.trees-tree-items.ensures.trees in
    let part = tree_length items c.loop-tree.tree-index x c.loop-tree-test.true in
    let same = ap (λ (u : TokenTree). length (tree_tokens u)) c.tree-item.is in
    (omega (arith, whole, part, same, c.decreases), search rules)
