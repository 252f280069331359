use Rattle.syn_expr.proofs.ExprJumps.{range_limited}
use Rattle.syn_expr.proofs.expr.jumps.ExprRange.of.Goals as goal

pub returns-in_default-range_limits : goal.returns-in_default-range_limits
returns-in_default-range_limits c =
    range_limited _ _ _ _ _ c.in-Some.ensures c.in_default-range_limits.ensures
