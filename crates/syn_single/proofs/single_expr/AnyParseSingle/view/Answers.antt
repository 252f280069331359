use Rattle.syn_single.proofs.Which.{no_form, shaped_as}
use Rattle.syn_single.proofs.single_expr.AnyParseSingle.view.Goals as goal

pub returns-in_default : goal.returns-in_default
returns-in_default g c rest d h = no_form g.T.SingleExpr.form _ c.in_default.ensures h

pub returns-in-None : goal.returns-in-None
returns-in-None g c rest d h =
    c.in-None.ensures (shaped_as g.T.SingleExpr.form c.args.tree.now c.in-Some.whole.tree.now rest
    c.in-Some.ensures.0 d h)
