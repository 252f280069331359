use Rattle.std.proofs.Common.{ap, arith, length, ◌≤◌, ◌++◌, ◌∙◌}
use Rattle.std.proofs.lemmas.Str.{IsCharBoundary-from_drop}
use Rattle.std.specs.Str.{chars}
use Rattle.rust_leaf.specs.Leaf.{text_of}
use Rattle.rust_leaf.proofs.Turns.{run_turn, text_end}
use Rattle.rust_leaf.proofs.escape.push_text.Goals as goal

pub range-requires-clause-start_boundary : goal.range-requires-clause-start_boundary
range-requires-clause-start_boundary c =
    λ _. (let p = c.loop-at.invariant.0 in IsCharBoundary-from_drop _ _ p.within p.cut)

pub range-requires-clause-end_boundary : goal.range-requires-clause-end_boundary
range-requires-clause-end_boundary c =
    (let p = c.past_many-end.ensures.from.place in IsCharBoundary-from_drop _ _ p.within p.cut)

pub loop-at-preserved-then-at-end : goal.loop-at-preserved-then-at-end
loop-at-preserved-then-at-end c = (
  c.past_many-end.ensures.from.place,
  run_turn _ _ _ _ _ _ c.loop-at.invariant.1 c.loop-at.invariant.0 c.past_many-end.ensures.from c.if-at-end.true
      c.past_many-end.ensures.rest
      (c.in_ok-push_word.ensures ∙ ap (λ bytes. text_of c.loop-at.out ++ chars bytes) c.range.ensures.value),
)

pub range_from-requires : goal.range_from-requires
range_from-requires c =
    λ _. (let p = c.char_at-c.ensures.behind.place in IsCharBoundary-from_drop _ _ p.within p.cut)

pub returns : goal.returns
returns c =
    let l : length c.args.text.now ≤ c.loop-at.at = omega (arith, c.loop-at-test.false) in
    text_end _ _ _ _ l c.loop-at.invariant.1
