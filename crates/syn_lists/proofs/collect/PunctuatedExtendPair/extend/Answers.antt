use Rattle.std.proofs.Common.{sym}
use Rattle.syn_lists.specs.Pairs.{parts}
use Rattle.syn_lists.proofs.Adding.{extended_pair}
use Rattle.syn_lists.proofs.collect.PunctuatedExtendPair.extend.Goals as goal

pub loop-pair-preserved : goal.loop-pair-preserved
loop-pair-preserved g c =
    extended_pair g.P.Default.is_default _ _ _ _ _ _ parts c.loop-pair.yielded c.in-Some.pair _ _
    c.loop-pair.invariant (sym c.into_tuple-value.ensures)
    c.in_ok-push_pair.ensures.values c.in_ok-push_pair.ensures.kept c.in_ok-push_pair.ensures.missing
