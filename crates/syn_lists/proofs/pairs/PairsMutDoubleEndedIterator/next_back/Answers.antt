use Rattle.std.proofs.Common.{◌≡◌, ◌+◌, ◌<◌, ◌≤◌, [], ◌∷◌, length, length-append, ap, arith}
use Rattle.syn_lists.specs.Left.{iter_mut_left}
use Rattle.syn_lists.proofs.Behind.{bare, behind}
use Rattle.syn_lists.proofs.pairs.PairsMutDoubleEndedIterator.next_back.Goals as goal

pub returns-then-len-count-clause-steps : goal.returns-then-len-count-clause-steps
returns-then-len-count-clause-steps g c =
    let all = c.in_ok-value.ensures.steps in
    let left = iter_mut_left c.next_back.new.self in
    let few = iter_mut_left c.cut.new.separators in
    let count : c.len-count.result ≡ length left + 1 =
    omega (arith, c.len-count.ensures.value, ap length all, length-append left (c.in_ok-value.value.now ∷ [])) in
    let past : length few ≤ length left = omega (arith, c.len.ensures.value, c.if-len-count.true, count) in
    bare _ left _ few _ c.len-count.result all c.cut.ensures count past

pub returns-clause-steps : goal.returns-clause-steps
returns-clause-steps g c =
    let all = c.in_ok-value.ensures.steps in
    let left = iter_mut_left c.next_back.new.self in
    let few = iter_mut_left c.cut.new.separators in
    let count : c.len-count.result ≡ length left + 1 =
    omega (arith, c.len-count.ensures.value, ap length all, length-append left (c.in_ok-value.value.now ∷ [])) in
    let below : length left < length few = omega (arith, c.len.ensures.value, c.if-len-count.false, count) in
    behind _ left _ few _ _ _ c.len-count.result all c.cut.ensures count below c.in-Some.ensures.steps
