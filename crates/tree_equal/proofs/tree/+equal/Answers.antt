use Rattle.std.proofs.Common.{◌<◌, arith, length}
use Rattle.tree_equal.proofs.Sizes.{element_below, turn_below}
use Rattle.tree_equal.proofs.tree.+equal.Goals as goal

pub equal_turns-equal-requires : goal.equal_turns-equal-requires
equal_turns-equal-requires t c =
    let within : c.loop-index.index < length c.args.others.now = omega arith in
    let one = turn_below c.args.turns.now c.loop-index.index c.index-turns-index.result c.loop-index-test.true
    c.index-turns-index.is in
    let other = turn_below c.args.others.now c.loop-index.index c.index-others-index.result within
    c.index-others-index.is in
    omega (arith, c.decreases, one, other)

pub equal_elements-equal-requires : goal.equal_elements-equal-requires
equal_elements-equal-requires t c =
    let within : c.loop-index.index < length c.args.others.now = omega arith in
    let one = element_below c.args.elements.now c.loop-index.index c.index-elements-index.result c.loop-index-test.true
    c.index-elements-index.is in
    let other = element_below c.args.others.now c.loop-index.index c.index-others-index.result within
    c.index-others-index.is in
    omega (arith, c.decreases, one, other)
