use Rattle.syn_lists.proofs.Adding.{extended_value}
use Rattle.syn_lists.proofs.collect.PunctuatedExtend.extend.Goals as goal

pub loop-value-preserved : goal.loop-value-preserved
loop-value-preserved g c =
    extended_value g.P.Default.is_default _ _ _ _ _ _ c.loop-value.yielded c.in-Some.value c.loop-value.invariant
    c.in_ok-push.ensures.values c.in_ok-push.ensures.kept c.in_ok-push.ensures.separator
