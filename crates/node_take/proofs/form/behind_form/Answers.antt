use Rattle.node_take.proofs.Forms.{none_behind}
use Rattle.node_take.proofs.form.behind_form.Goals as goal

pub unreachable-requires : goal.unreachable-requires
unreachable-requires c =
    none_behind _ c.in_default.not-ExprStruct c.in_default.not-ExprCall c.in_default.not-ExprMethodCall
    c.in_default.not-ExprField c.in_default.not-ExprAwait c.in_default.not-ExprIndex c.in_default.not-ExprTry
    c.in_default.not-ExprCast c.in_default.not-ExprRange c.requires
