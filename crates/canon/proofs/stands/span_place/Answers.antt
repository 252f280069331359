use Rattle.std.proofs.Common.{◌∙◌, sym}
use Rattle.canon.proofs.Trees.{span_found, span_not_begun, span_not_held}
use Rattle.canon.proofs.stands.span_place.Goals as goal
use Rattle.canon.proofs.stands.span_place.Goals.{else-holds-via-else-holds, else-holds-via-then-holds+else-is_any_begun}

pub returns-then-is_any_begun : goal.returns-then-is_any_begun
returns-then-is_any_begun c =
    span_found c.args.map.now c.args.span c.first_character-first.result c.trees.result.now c.args.stream.now
    c.start.result c.first_character-first.ensures c.trees.ensures.trees (sym c.holds.ensures ∙ c.if-holds.true)
    (sym c.is_any_begun.ensures ∙ c.if-is_any_begun.true) c.start.ensures

pub returns : goal.returns
returns c = elim c.else-holds.branch [
  | else-holds-via-then-holds+else-is_any_begun w ↦
      span_not_begun c.args.map.now c.args.span c.first_character-first.result w.trees.result.now c.args.stream.now
      c.first_character-first.ensures w.trees.ensures.trees
      (sym w.is_any_begun.ensures ∙ w.if-is_any_begun.false)
  | else-holds-via-else-holds w ↦
      span_not_held c.args.map.now c.args.span c.first_character-first.result c.args.stream.now
      c.first_character-first.ensures (sym c.holds.ensures ∙ w.if-holds.false)
]
