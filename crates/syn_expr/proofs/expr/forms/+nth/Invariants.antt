use Rattle.syn_expr.proofs.expr.forms.+nth.Given as goal

abbrev pub decreases-nth : goal.decreases-nth
decreases-nth l = l.number
