use Rattle.syn_grammar.specs.Kind as k
use Rattle.syn_grammar.specs.Table.{table}
use Rattle.syn_expr.proofs.ExprJumps.{jump_own}
use Rattle.syn_expr.proofs.expr.jumps.ExprYield.of.Goals as goal

pub returns-in_default-word : goal.returns-in_default-word
unfolding table
returns-in_default-word c = λ h.
    c.in_default-word.ensures _ (jump_own _ _ _ _ k.ExprYield c.in-Some-ExprYield-default-default.ensures h)
