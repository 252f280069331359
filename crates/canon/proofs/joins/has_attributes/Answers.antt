use Rattle.std.proofs.Common.{◌∙◌}
use Rattle.canon.proofs.Attributes.{attributes_are, some_or_none, turns_are}
use Rattle.canon.proofs.joins.has_attributes.Goals as goal

pub returns : goal.returns
returns c =
    some_or_none _ c.in-Some-turns.each.now c.is_empty.result
    (attributes_are _ _ _ _ _ _ _ c.in-Some.ensures c.in-Some-pair.ensures c.in-Some-node.ensures
    ∙ turns_are c.in-Some-node.attributes.now c.in-Some-turns.each.now c.in-Some-turns.ensures)
    c.is_empty.ensures
