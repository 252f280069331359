use Rattle.std.proofs.Common.{◌≡◌, ◌∷◌, ◌∙◌, ◌+◌, ℕ, List, ap, subst, sym, arith, length-take, take}
use Rattle.rust_map.specs.declared.span.Span.{Span}
use Rattle.proc_macro2.specs.declared.tree.Group.{Group}
use Rattle.proc_macro2.specs.declared.tree.TokenTree.TheVariants as tree
use Rattle.syn_buffer.specs.Entries.{is_laid}
use Rattle.syn_buffer.specs.Standing.{FirstTree}
use Rattle.syn_buffer.specs.declared.entry.Entry.{Entry}
use Rattle.syn_buffer.specs.declared.entry.Entry.TheVariants as entry
use Rattle.syn_buffer.proofs.Laid.{opened, whole_is_laid}
use Rattle.syn_buffer.proofs.Standing.{first_group, first_literal}
use Rattle.syn_buffer.proofs.trees.+building.Goals as goal

pub first_tree-stream_of-requires : goal.first_tree-stream_of-requires
first_tree-stream_of-requires t c =
    let es : List Entry = c.in-Some.behind.now in
    let n = c.in-Open.count in
    let stands : c.args.entries.now ≡ entry.Open c.in-Open.delimiter c.in-Open.span n ∷ es =
    cc (c.in-Some.ensures.cases.0, c.in-Open.is) in
    let o = opened c.in-Open.delimiter c.in-Open.span n es (sym (ap is_laid stands) ∙ c.requires) in (
      omega (arith, length-take n es, o.within, c.in-Some.ensures.cases.1, c.decreases),
      whole_is_laid (take n es) o.inside,
    )

pub first_tree-returns-in_ok-stream_of-in-Open-clause-some : goal.first_tree-returns-in_ok-stream_of-in-Open-clause-some
first_tree-returns-in_ok-stream_of-in-Open-clause-some t c =
    let es : List Entry = c.in-Some.behind.now in
    let d = c.in-Open.delimiter in
    let s = c.in-Open.span in
    let n = c.in-Open.count in
    let g : Group = c.set_span.new.self in
    let stands : c.args.entries.now ≡ entry.Open d s n ∷ es = cc (c.in-Some.ensures.cases.0, c.in-Open.is) in
    let P : List Entry → Type 0 = λ xs. FirstTree xs (tree.Group g) (n + 2) in
    subst P (sym stands) (first_group d s n es g (sym (ap is_laid stands) ∙ c.requires)
    (ap (λ (x : Group). x.delimiter) c.set_span.ensures ∙ c.new-group.ensures.delimiter)
    (ap (λ (x : Group). x.span) c.set_span.ensures)
    (ap (λ (x : Group). x.stream) c.set_span.ensures ∙ c.new-group.ensures.stream ∙ c.in_ok-stream_of-in-Open.ensures))

pub first_tree-returns-in_ok-try_clone-in-Literal-clause-some
    : goal.first_tree-returns-in_ok-try_clone-in-Literal-clause-some
first_tree-returns-in_ok-try_clone-in-Literal-clause-some t c =
    let es : List Entry = c.in-Some.behind.now in
    let x = c.in_ok-try_clone-in-Literal.field-0 in
    let stands : c.args.entries.now ≡ entry.Literal c.in-Literal.literal ∷ es =
    cc (c.in-Some.ensures.cases.0, c.in-Literal.is) in
    let P : List Entry → Type 0 = λ xs. FirstTree xs (tree.Literal x) 1 in
    let copy = c.in_ok-try_clone-in-Literal.ensures.copy in
    subst P (sym stands) (first_literal c.in-Literal.literal es x (sym (ap is_laid stands) ∙ c.requires)
    (ap (λ (p : List ℕ × Span). p.0) copy) (ap (λ (p : List ℕ × Span). p.1) copy))
