use Rattle.std.proofs.Common.{rules, arith, ◌≡◌, ◌+◌, ◌++◌, ◌∷◌, ◌∙◌, [], take, length, sym, ap, refl}
use Rattle.std.proofs.Output.{has_written_append, has_written_of_eq}
use Rattle.std.proofs.lemmas.Bool.{eqb-false}
use Rattle.std.proofs.lemmas.List.{take_more}
use Rattle.proc_macro2.specs.Printed.{printed}
use Rattle.proc_macro2.specs.Shown.{front}
use Rattle.proc_macro2.specs.Flat.{tree_tokens}
use Rattle.proc_macro2.specs.declared.tree.TokenTree.{TokenTree}
use Rattle.proc_macro2.proofs.Texts.{joint_more, printed_group, printed_more}
use Rattle.proc_macro2.proofs.Views.{tree_length}
use Rattle.proc_macro2.proofs.print.+printing.Goals as goal

pub write_group-returns : goal.write_group-returns
write_group-returns g t c =
    let group = c.args.group.now in
    let items = c.trees.result.now in
    let some : items ≡ [] → ⊥ =
    λ e. eqb-false _ 0 (sym c.is_empty.ensures ∙ c.if-is_empty.false) (ap length e) in
    λ p o.
    let opened = c.in_ok-write_str.ensures.writes p refl in
    let inside = c.in_ok-write_stream.ensures opened.plain refl in
    let closed = c.write_str-3.ensures.writes inside.plain o in
    has_written_of_eq _ _ _ _ _
    (ap (λ r. r ++ (printed group.stream ++ c.back.result.now)) c.front.ensures
    ∙ ap (λ r. front group.delimiter ++ (printed group.stream ++ r)) c.back.ensures
    ∙ printed_group group items c.trees.ensures.trees some)
    (has_written_append _ _ _ _ _ _ opened (has_written_append _ _ _ _ _ _ inside closed))

pub write_stream-write_next-requires : goal.write_stream-write_next-requires
write_stream-write_next-requires g t c κs within =
    let items = c.trees-tree-items.result.now in
    let x : TokenTree = c.tree-item.result in
    let whole = ap length c.trees-tree-items.ensures.trees in
    let part = tree_length items c.loop-tree.tree-index x c.loop-tree-test.true in
    let same = ap (λ (u : TokenTree). length (tree_tokens u)) c.tree-item.is in
    (omega (arith, whole, part, same, c.decreases), search rules)

pub write_stream-loop-tree-preserved : goal.write_stream-loop-tree-preserved
write_stream-loop-tree-preserved g t c =
    let items = c.trees-tree-items.result.now in
    let i = c.loop-tree.tree-index in
    let x = c.tree-item.result in
    let before = c.loop-tree.invariant in
    let e : take (i + 1) items ≡ take i items ++ x ∷ [] = take_more items i x c.loop-tree-test.true
    ∙ ap (λ y. take i items ++ y ∷ []) (sym c.tree-item.is) in
    rw e (record {
      written = λ p.
          let done = before.written p in
          has_written_of_eq _ _ _ _ _ (printed_more (take i items) x c.loop-tree.close before.joint)
          (has_written_append _ _ _ _ _ _ done (c.in_ok-write_next.ensures done.plain refl));
      joint = c.is_joint-close.ensures ∙ sym (joint_more (take i items) x);
    })
