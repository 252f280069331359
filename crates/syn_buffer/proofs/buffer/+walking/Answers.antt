use Rattle.std.proofs.Common.{◌≡◌, ◌∙◌, ap, subst, arith, List, [], ◌∷◌, ◌++◌, length, length-append}
use Rattle.proc_macro2.specs.Flat.{spanned, tree_tokens, trees_tokens}
use Rattle.proc_macro2.specs.Token.{Closes, Spanned}
use Rattle.proc_macro2.specs.declared.tree.TokenTree.{TokenTree}
use Rattle.syn_buffer.specs.Puts.{Puts}
use Rattle.syn_buffer.specs.declared.entry.Entry.{Entry}
use Rattle.syn_buffer.specs.declared.entry.Entry.TheVariants as marks
use Rattle.syn_buffer.specs.Seen.{all_seen, is_visible}
use Rattle.syn_buffer.specs.Unsigned.{are_unsigned}
use Rattle.syn_buffer.proofs.AllSeen.{group_all_seen}
use Rattle.std.specs.Prelude.{◌&&◌}
use Rattle.std.proofs.Common.{sym}
use Rattle.syn_buffer.proofs.Unsigned.{inside_unsigned, part_unsigned}
use Rattle.syn_buffer.proofs.Putting.{part_length, put_group, put_next, seen_next}
use Rattle.syn_buffer.proofs.buffer.+walking.Goals as goal

pub put_trees-put_tree-requires : goal.put_trees-put_tree-requires
put_trees-put_tree-requires t c =
    let x : TokenTree = c.tree-item.result in
    let part = part_length c.args.trees.now c.loop-tree.tree-index x c.loop-tree-test.true in
    let same = ap (λ (u : TokenTree). length (tree_tokens u)) c.tree-item.is in
    let unsigned = part_unsigned c.args.trees.now c.loop-tree.tree-index x c.loop-tree-test.true c.requires in (
      omega (arith, part, same, c.decreases),
      ap (λ (u : TokenTree). are_unsigned (tree_tokens u)) c.tree-item.is
          ∙ unsigned,
    )

pub put_trees-loop-tree-preserved : goal.put_trees-loop-tree-preserved
put_trees-loop-tree-preserved t c = (
  put_next c.args.entries.now.items c.loop-tree.entries.items c.put_tree.new.entries.items c.args.trees.now
      c.loop-tree.tree-index c.tree-item.result
      c.loop-tree-test.true c.tree-item.is c.loop-tree.invariant.0 c.in_ok-all_visible.ensures.puts,
  seen_next c.args.trees.now c.loop-tree.tree-index c.tree-item.result c.loop-tree.all_visible
      c.in_ok-all_visible.field-0 c.loop-tree-test.true c.tree-item.is c.loop-tree.invariant.1
      c.in_ok-all_visible.ensures.visible,
)

pub put_group-put_trees-requires : goal.put_group-put_trees-requires
put_group-put_trees-requires t c =
    let close : List Spanned = spanned (Closes c.args.group.now.delimiter) c.args.group.now.span ∷ [] in
    let inside : length (trees_tokens c.trees.result.now) ≡ length c.args.group.now.stream =
    ap (λ (x : List Spanned). length x) (c.trees.ensures.trees ∙ c.stream_ref.ensures.stream) in
    let long = length-append c.args.group.now.stream close in
    let tokens : trees_tokens c.trees.result.now ≡ c.args.group.now.stream =
    c.trees.ensures.trees ∙ c.stream_ref.ensures.stream in
    (omega (arith, inside, long, c.decreases), ap are_unsigned tokens ∙ inside_unsigned c.args.group.now c.requires)

pub put_group-returns-clause-puts : goal.put_group-returns-clause-puts
put_group-returns-clause-puts t c =
    let d = c.args.group.now.delimiter in
    let s = c.args.group.now.span in
    let before : List Entry = c.args.entries.now.items in
    let opened : List Entry = c.push.new.self.items in
    let filled : List Entry = c.put_trees.new.entries.items in
    let P : List Spanned → Type 0 = λ ts. Puts opened filled ts in
    let inside : Puts opened filled c.args.group.now.stream =
    subst P (c.trees.ensures.trees ∙ c.stream_ref.ensures.stream) c.in_ok-all_visible.ensures.puts in
    let marked : opened ≡ before ++ marks.Open d s 0 ∷ [] = cc (c.in_ok-push.ensures.items) in
    put_group d s before opened filled c.close.new.entries.items c.args.group.now.stream marked inside
    (cc (c.in_ok-close.ensures))

pub put_group-returns-clause-visible : goal.put_group-returns-clause-visible
put_group-returns-clause-visible t c =
    let g = c.args.group.now in
    let inside : c.in_ok-all_visible.all_visible ≡ all_seen g.stream =
    c.in_ok-all_visible.ensures.visible ∙ ap all_seen (c.trees.ensures.trees ∙ c.stream_ref.ensures.stream) in
    ap (λ b. c.is_visible.result && b) inside
    ∙ ap (λ b. b && all_seen g.stream) (c.is_visible.ensures ∙ ap is_visible c.delimiter-3.ensures)
    ∙ sym (group_all_seen g.delimiter g.span g.stream)
