use Rattle.std.proofs.Common.{◌≡◌, ◌∙◌, ◌+◌, ap, inl, inr, sym}
use Rattle.std.specs.Range.Bound.{bound_map, end_index, start_index}
use Rattle.rust_leaf.proofs.Parts.{no_part}
use Rattle.rust_leaf.specs.Leaf.{literal_span}
use Rattle.rust_map.specs.Spans.{span_length}
use Rattle.rust_leaf.proofs.literal.Literal.subspan.Goals as goal

pub returns-in_err-from-in-Excluded-clause-part : goal.returns-in_err-from-in-Excluded-clause-part
returns-in_err-from-in-Excluded-clause-part g c =
    let from : start_index (g.R.RangeBounds.start_bound c.args.range) ≡ c.in-Excluded.before.now + 1 =
    ap start_index (sym (c.start_bound.ensures c.requires.known))
    ∙ ap (λ r. start_index (bound_map (λ x. x.now) r)) c.in-Excluded.is in
    c.from_residual.ensures ∙ sym
    (no_part _ _ _ c.characters-length.result _ c.characters-length.ensures c.characters-length.type_inv
    c.in_err-from-in-Excluded.ensures (inl from))

pub returns-in_err-to-in-Included-end_bound-clause-part : goal.returns-in_err-to-in-Included-end_bound-clause-part
returns-in_err-to-in-Included-end_bound-clause-part g c =
    let len = span_length (literal_span c.args.self.now) in
    let to : end_index (g.R.RangeBounds.end_bound c.args.range) len ≡ c.in-Included-end_bound.last.now + 1 =
    ap (λ b. end_index b len) (sym (c.end_bound.ensures c.requires.known))
    ∙ ap (λ r. end_index (bound_map (λ x. x.now) r) len) c.in-Included-end_bound.is in
    c.from_residual-in_err-to-in-Included-end_bound.ensures
    ∙ sym (no_part _ _ _ c.characters-length.result _ c.characters-length.ensures c.characters-length.type_inv
    c.in_err-to-in-Included-end_bound.ensures (inr to))
