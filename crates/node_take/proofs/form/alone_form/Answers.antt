use Rattle.node_take.proofs.Forms.{none_alone}
use Rattle.node_take.proofs.form.alone_form.Goals as goal

pub unreachable-requires : goal.unreachable-requires
unreachable-requires c =
    none_alone _ c.in_default.not-ExprLit c.in_default.not-ExprPath c.in_default.not-ExprMacro
    c.in_default.not-ExprParen c.in_default.not-ExprArray c.in_default.not-ExprRepeat c.in_default.not-ExprGroup
    c.in_default.not-ExprInfer c.in_default.not-ExprBlock c.in_default.not-ExprUnsafe c.in_default.not-ExprAsync
    c.in_default.not-ExprConst c.in_default.not-ExprTryBlock c.in_default.not-ExprIf c.in_default.not-ExprMatch
    c.in_default.not-ExprLoop c.in_default.not-ExprWhile c.in_default.not-ExprForLoop
    c.in_default.not-ExprContinue c.in_default.not-ExprTypedClosure c.in_default.not-ExprBreak
    c.in_default.not-ExprReturn c.in_default.not-ExprYield c.in_default.not-ExprRange c.requires
