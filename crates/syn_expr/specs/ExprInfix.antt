-- The trees that expressions with an operand on either side are.
use Rattle.std.specs.Prelude.{◌≡◌}
use Rattle.syn_part.specs.Kept.{IsFirst}
use Rattle.syn_part.specs.Leaves.{mark_tree}
use Rattle.syn_part.specs.Shape.{IsShaped}
use Rattle.syn_grammar.specs.Table.{table}
use Rattle.syn_expr.specs.ExprOps.{IsOperator, bin_op_kind, bin_op_tree}
use Rattle.syn_expr.specs.declared.expr.infix.ExprAssign.{ExprAssign}
use Rattle.syn_expr.specs.declared.expr.infix.ExprBinary.{ExprBinary}
use Rattle.syn_grammar.specs.Kind as k
use Rattle.syn_grammar.specs.Tree as t
use Rattle.syn_grammar.specs.Tree.{Tree}

-- an assignment by =, which is the first operator of its kind: a = b
abbrev pub expr_assign : ExprAssign → Tree
expr_assign x = t.Infix x.left.now k.ExprAssign (t.First (mark_tree x.eq_token)) x.right.now

-- a binary operator between its operands, by the kind of its level: a + b, a += b
abbrev pub expr_binary : ExprBinary → Tree
expr_binary x = t.Infix x.left.now (bin_op_kind x.op) (bin_op_tree x.op) x.right.now

-- an assignment's form whose operator is =, which is the first of its entry
abbrev pub IsAssign : Tree → Type 0
IsAssign (t.Infix l j y r) = (j ≡ k.ExprAssign) × IsShaped y (table k.ExprAssign) × IsFirst y
IsAssign _ = ⊥

-- a form with an operand on either side, whose kind and own part are those of a binary operator
abbrev pub IsBinary : Tree → Type 0
IsBinary (t.Infix l j y r) = IsOperator j y
IsBinary _ = ⊥
