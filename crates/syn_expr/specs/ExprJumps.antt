-- The trees that expressions are whose operands may be missing.
use Rattle.syn_part.specs.Leaves.{lifetime_tree, optional_tree, word_tree}
use Rattle.syn_expr.specs.ExprForms.{form_tree, jump_tree}
use Rattle.syn_expr.specs.ExprOps.{limits_kind, limits_tree}
use Rattle.syn_expr.specs.declared.expr.jumps.ExprBreak.{ExprBreak}
use Rattle.syn_expr.specs.declared.expr.jumps.ExprReturn.{ExprReturn}
use Rattle.syn_expr.specs.declared.expr.jumps.ExprYield.{ExprYield}
use Rattle.syn_expr.specs.declared.expr.jumps.ExprRange.{ExprRange}
use Rattle.syn_part.specs.declared.leaf.Lifetime.{Lifetime}
use Rattle.syn_grammar.specs.Kind as k
use Rattle.syn_grammar.specs.Name as n
use Rattle.syn_grammar.specs.Tree as t
use Rattle.syn_grammar.specs.Tree.{Tree}

-- the label behind break; what stands behind it is no :
abbrev pub break_label_tree : Lifetime → Tree
break_label_tree l = t.Pair (t.Called n.the_label (lifetime_tree l)) (t.Second t.Nil)

-- a loop or a block that is left, with a label or without, with a value or without: break 'a b
abbrev pub expr_break : ExprBreak → Tree
expr_break x =
    jump_tree k.ExprBreak (t.Pair (word_tree x.break_token) (optional_tree break_label_tree x.label)) x.expr

-- a function that is left, with a value or without: return a
abbrev pub expr_return : ExprReturn → Tree
expr_return x = jump_tree k.ExprReturn (word_tree x.return_token) x.expr

-- a value that is handed out, or none: yield a
abbrev pub expr_yield : ExprYield → Tree
expr_yield x = jump_tree k.ExprYield (word_tree x.yield_token) x.expr

-- a range, by its start, its limits and its end: .., a.., ..b, a..=b; nothing is asked of which of these are missing
abbrev pub expr_range : ExprRange → Tree
expr_range x = form_tree x.start (limits_kind x.limits) (limits_tree x.limits) x.end
