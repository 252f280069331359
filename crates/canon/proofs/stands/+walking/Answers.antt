use Rattle.std.proofs.Common.{◌≡◌, ◌∙◌, List, arith, length, sym, ap}
use Rattle.std.specs.Prelude.{Bool, false, ◌||◌}
use Rattle.std.specs.List.{list_any}
use Rattle.rust_map.specs.Spans.{first_of, last_of}
use Rattle.rust_map.specs.declared.span.Span.{Span}
use Rattle.proc_macro2.specs.Token.{Closes, Opens, Spanned}
use Rattle.proc_macro2.specs.Flat.{spanned, tree_tokens}
use Rattle.proc_macro2.specs.declared.tree.TokenTree.{TokenTree}
use Rattle.syn_buffer.specs.Entries.{same_span}
use Rattle.canon.specs.Places.{begins_with}
use Rattle.canon.proofs.Trees.{any_group, any_trees, part_length}
use Rattle.canon.proofs.stands.+walking.Goals as goal

pub is_any_begun-is_begun-requires : goal.is_any_begun-is_begun-requires
is_any_begun-is_begun-requires t c =
    let x : TokenTree = c.tree-item.result in
    let part = part_length c.args.trees.now c.loop-tree.tree-index x c.loop-tree-test.true in
    let same = ap (λ (u : TokenTree). length (tree_tokens u)) c.tree-item.is in
    omega (arith, part, same, c.decreases)

pub is_group_begun-returns : goal.is_group_begun-returns
is_group_begun-returns t c =
    let p : Spanned → Bool = begins_with c.args.first in
    let span : Span = c.args.group.now.span in
    let opens : Spanned = spanned (Opens c.args.group.now.delimiter) span in
    let closes : Spanned = spanned (Closes c.args.group.now.delimiter) span in
    let ss : List Spanned = c.args.group.now.stream in
    let not_open : same_span (first_of (first_of span)) c.args.first ≡ false =
    ap (λ (s : Span). same_span (first_of s) c.args.first) (sym c.span_open.ensures) ∙ sym c.begins.ensures
    ∙ c.if-begins.false in
    let not_close : same_span (first_of (last_of span)) c.args.first ≡ false =
    ap (λ (s : Span). same_span (first_of s) c.args.first) (sym c.span_close.ensures)
    ∙ sym c.begins-else-begins.ensures ∙ c.if-begins-2.false in
    c.is_any_begun.ensures ∙ sym (any_trees p c.trees.result.now)
    ∙ ap (list_any p) (c.trees.ensures.trees ∙ c.stream_ref.ensures.stream)
    ∙ sym (any_group p opens closes ss ∙ ap (λ b. (b || p closes) || list_any p ss) not_open
    ∙ ap (λ b. (false || b) || list_any p ss) not_close)
