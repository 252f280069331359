use Rattle.std.proofs.Common.{◌∙◌, ap, sym, refl, ◌&&◌, [], ◌+◌, drop, length, arith}
use Rattle.proc_macro2.specs.Flat.{tree_tokens, trees_tokens}
use Rattle.proc_macro2.specs.Stands.{all_stand, tokens_behind}
use Rattle.proc_macro2.specs.Token.{plain}
use Rattle.proc_macro2.specs.declared.tree.TokenTree.{TokenTree}
use Rattle.proc_macro2.proofs.NextTree.{stand_from}
use Rattle.proc_macro2.proofs.Standing.{stand_group}
use Rattle.proc_macro2.proofs.Views.{tree_length}
use Rattle.proc_macro2.proofs.spacing.+spacing.Goals as goal

pub group_stands-returns-then-is_visible : goal.group_stands-returns-then-is_visible
group_stands-returns-then-is_visible t c =
    let group = c.args.group.now in
    c.stream_stands.ensures ∙ ap (λ b. b && all_stand (plain group.stream) []) c.if-is_visible.ensures
    ∙ sym (stand_group group [])

pub stream_stands-tree_stands-requires : goal.stream_stands-tree_stands-requires
stream_stands-tree_stands-requires t c =
    let items = c.trees-trees.result.now in
    let x : TokenTree = c.tree-item.result in
    let whole = ap length c.trees-trees.ensures.trees in
    let part = tree_length items c.loop-tree.tree-index x c.loop-tree-test.true in
    let same = ap (λ (u : TokenTree). length (tree_tokens u)) c.tree-item.is in
    (omega (arith, whole, part, same, c.decreases), tt)

pub stream_stands-returns-then-not-tree_stands : goal.stream_stands-returns-then-not-tree_stands
stream_stands-returns-then-not-tree_stands t c =
    let items = c.trees-trees.result.now in
    let i = c.loop-tree.tree-index in
    let from = stand_from items items i c.loop-tree.behind c.tree-item.result c.get.result c.tree_stands.result refl
    c.loop-tree.invariant.behind c.loop-tree-test.true c.tree-item.is c.get.ensures.lookup c.tree_stands.ensures in
    sym
    (ap (λ ts. all_stand (plain ts) []) (sym c.trees-trees.ensures.trees)
    ∙ c.loop-tree.invariant.left ∙ from
    ∙ ap (λ b. b && all_stand (plain (trees_tokens (drop (i + 1) items))) []) c.if-not-tree_stands.true)

pub stream_stands-loop-tree-preserved : goal.stream_stands-loop-tree-preserved
stream_stands-loop-tree-preserved t c =
    let items = c.trees-trees.result.now in
    let i = c.loop-tree.tree-index in
    let from = stand_from items items i c.loop-tree.behind c.tree-item.result c.get.result c.tree_stands.result refl
    c.loop-tree.invariant.behind c.loop-tree-test.true c.tree-item.is c.get.ensures.lookup c.tree_stands.ensures in
    record {
      behind = ap (λ k. k + 1) c.loop-tree.invariant.behind;
      left = c.loop-tree.invariant.left ∙ from
          ∙ ap (λ b. b && all_stand (plain (trees_tokens (drop (i + 1) items))) []) c.if-not-tree_stands.false;
    }

pub tree_stands-returns-in-Group : goal.tree_stands-returns-in-Group
tree_stands-returns-in-Group t c =
    let group = c.in-Group.group in
    rw c.in-Group.is (c.group_stands.ensures ∙ stand_group group []
    ∙ sym (stand_group group (tokens_behind c.args.next)))
