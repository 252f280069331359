use Rattle.std.proofs.Common.{◌≡◌, ◌-◌, ◌<◌, ◌∙◌, ap, length, get_or, arith}
use Rattle.syn_error.proofs.Places.{last_tree}
use Rattle.syn_error.proofs.error.ends.Goals as goal

pub returns-in-len1-clause-last : goal.returns-in-len1-clause-last
returns-in-len1-clause-last c =
    let trees = c.trees.result.now in
    let at : 0 ≡ length trees - 1 = omega (arith, c.in-len1.len_at_least, c.in-len1.len_below) in
    let below : 0 < length trees = omega (arith, c.in-len1.len_at_least) in
    c.span-in-len1.ensures.span
    ∙ last_tree trees c.one-item.result _ c.trees.ensures.trees below
    (c.one-item.is ∙ ap (λ n. get_or trees n c.one-item.result) at)

pub returns-in-len2-up-clause-last : goal.returns-in-len2-up-clause-last
returns-in-len2-up-clause-last c =
    let trees = c.trees.result.now in
    let below : 0 < length trees = omega (arith, c.in-len2-up.len_at_least) in
    c.span-in-len2-up-2.ensures.span ∙ last_tree trees c.last-item.result _ c.trees.ensures.trees below c.last-item.is
