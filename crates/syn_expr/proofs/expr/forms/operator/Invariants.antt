use Rattle.std.proofs.Common.{◌≡◌, ◌<◌, ℕ}
use Rattle.syn_grammar.specs.Tree.{Tree}
use Rattle.syn_expr.specs.ExprForms.{nth_tree}
use Rattle.syn_expr.proofs.expr.forms.operator.Given as goal

-- none of the alternatives so far is chosen
abbrev pub invariant-loop-number : goal.invariant-loop-number
invariant-loop-number l = (j : ℕ) → j < l.number → (y : Tree) → l.tree ≡ nth_tree j y → ⊥
