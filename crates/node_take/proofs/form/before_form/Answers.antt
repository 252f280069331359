use Rattle.node_take.proofs.Forms.{none_before}
use Rattle.node_take.proofs.form.before_form.Goals as goal

pub unreachable-requires : goal.unreachable-requires
unreachable-requires c =
    none_before _ c.in_default.not-ExprAttributed c.in_default.not-ExprUnary c.in_default.not-ExprRawAddr
    c.in_default.not-ExprReference c.in_default.not-ExprLet c.in_default.not-ExprBreak
    c.in_default.not-ExprReturn c.in_default.not-ExprYield c.in_default.not-ExprClosure
    c.in_default.not-ExprRange c.in_default.not-ExprRangeClosed c.requires
