use Rattle.node_take.proofs.Forms.{none_between}
use Rattle.node_take.proofs.form.between_form.Goals as goal

pub unreachable-requires : goal.unreachable-requires
unreachable-requires c =
    none_between _ c.in_default.not-ExprRange c.in_default.not-ExprRangeClosed c.in_default.not-ExprAssign
    c.in_default.not-ExprOr c.in_default.not-ExprAnd c.in_default.not-ExprCompare c.in_default.not-ExprBitOr
    c.in_default.not-ExprBitXor c.in_default.not-ExprBitAnd c.in_default.not-ExprShift c.in_default.not-ExprSum
    c.in_default.not-ExprProduct c.requires
