use Rattle.syn_grammar.specs.Kind as k
use Rattle.syn_expr.proofs.ExprRead.{whole}
use Rattle.syn_typed.proofs.forms.ExprParse.view.Goals as goal

pub returns-in-None : goal.returns-in-None
returns-in-None c rest d =
    let read = whole k.Plain c.args.tree.now rest d in
    cc (read.1, c.in-None.ensures)
