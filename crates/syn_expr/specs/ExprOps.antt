-- The trees that operators are, and which forms have them.
use Rattle.syn_part.specs.Leaves.{mark_tree}
use Rattle.syn_expr.specs.ExprForms.{nth_tree}
use Rattle.syn_part.specs.Shape.{IsShaped}
use Rattle.syn_grammar.specs.Table.{table}
use Rattle.std.specs.Prelude.{◌≡◌}
use Rattle.syn_expr.specs.declared.expr.ops.UnOp.{UnOp}
use Rattle.syn_pat.specs.declared.patterns.RangeLimits.{RangeLimits}
use Rattle.syn_expr.specs.declared.expr.ops.BinOp.{BinOp}
use Rattle.syn_expr.specs.declared.expr.ops.UnOp.TheVariants as uns
use Rattle.syn_pat.specs.declared.patterns.RangeLimits.TheVariants as limits
use Rattle.syn_expr.specs.declared.expr.ops.BinOp.TheVariants as bins
use Rattle.syn_grammar.specs.Kind as k
use Rattle.syn_grammar.specs.Kind.{Kind}
use Rattle.syn_grammar.specs.Tree as t
use Rattle.syn_grammar.specs.Tree.{Tree}

-- a unary operator, as the alternative that it is of * ! and -
abbrev pub un_op_tree : UnOp → Tree
un_op_tree (uns.Deref m) = nth_tree 0 (mark_tree m)
un_op_tree (uns.Not m) = nth_tree 1 (mark_tree m)
un_op_tree (uns.Neg m) = nth_tree 2 (mark_tree m)

-- a range's kind, by its limits: .. or ..=
abbrev pub limits_kind : RangeLimits → Kind
limits_kind (limits.HalfOpen m) = k.ExprRange
limits_kind (limits.Closed m) = k.ExprRangeClosed

-- its own part: the mark
abbrev pub limits_tree : RangeLimits → Tree
limits_tree (limits.HalfOpen m) = mark_tree m
limits_tree (limits.Closed m) = mark_tree m

-- the kind of the forms that have a binary operator: that of its level
abbrev pub bin_op_kind : BinOp → Kind
bin_op_kind (bins.Or m) = k.ExprOr
bin_op_kind (bins.And m) = k.ExprAnd
bin_op_kind (bins.BitOr m) = k.ExprBitOr
bin_op_kind (bins.BitXor m) = k.ExprBitXor
bin_op_kind (bins.BitAnd m) = k.ExprBitAnd
bin_op_kind (bins.Add m) = k.ExprSum
bin_op_kind (bins.Sub m) = k.ExprSum
bin_op_kind (bins.Mul m) = k.ExprProduct
bin_op_kind (bins.Div m) = k.ExprProduct
bin_op_kind (bins.Rem m) = k.ExprProduct
bin_op_kind (bins.Shl m) = k.ExprShift
bin_op_kind (bins.Shr m) = k.ExprShift
bin_op_kind (bins.Eq m) = k.ExprCompare
bin_op_kind (bins.Le m) = k.ExprCompare
bin_op_kind (bins.Ne m) = k.ExprCompare
bin_op_kind (bins.Ge m) = k.ExprCompare
bin_op_kind (bins.Lt m) = k.ExprCompare
bin_op_kind (bins.Gt m) = k.ExprCompare
bin_op_kind (bins.AddAssign m) = k.ExprAssign
bin_op_kind (bins.SubAssign m) = k.ExprAssign
bin_op_kind (bins.MulAssign m) = k.ExprAssign
bin_op_kind (bins.DivAssign m) = k.ExprAssign
bin_op_kind (bins.RemAssign m) = k.ExprAssign
bin_op_kind (bins.BitXorAssign m) = k.ExprAssign
bin_op_kind (bins.BitAndAssign m) = k.ExprAssign
bin_op_kind (bins.BitOrAssign m) = k.ExprAssign
bin_op_kind (bins.ShlAssign m) = k.ExprAssign
bin_op_kind (bins.ShrAssign m) = k.ExprAssign

-- its own part: the mark, and of several operators of a level the alternative that it is in the kind's entry
abbrev pub bin_op_tree : BinOp → Tree
bin_op_tree (bins.Or m) = mark_tree m
bin_op_tree (bins.And m) = mark_tree m
bin_op_tree (bins.BitOr m) = mark_tree m
bin_op_tree (bins.BitXor m) = mark_tree m
bin_op_tree (bins.BitAnd m) = mark_tree m
bin_op_tree (bins.Add m) = nth_tree 0 (mark_tree m)
bin_op_tree (bins.Sub m) = nth_tree 1 (mark_tree m)
bin_op_tree (bins.Mul m) = nth_tree 0 (mark_tree m)
bin_op_tree (bins.Div m) = nth_tree 1 (mark_tree m)
bin_op_tree (bins.Rem m) = nth_tree 2 (mark_tree m)
bin_op_tree (bins.Shl m) = nth_tree 0 (mark_tree m)
bin_op_tree (bins.Shr m) = nth_tree 1 (mark_tree m)
bin_op_tree (bins.Eq m) = nth_tree 0 (mark_tree m)
bin_op_tree (bins.Le m) = nth_tree 1 (mark_tree m)
bin_op_tree (bins.Ne m) = nth_tree 2 (mark_tree m)
bin_op_tree (bins.Ge m) = nth_tree 3 (mark_tree m)
bin_op_tree (bins.Lt m) = nth_tree 4 (mark_tree m)
bin_op_tree (bins.Gt m) = nth_tree 5 (mark_tree m)
bin_op_tree (bins.AddAssign m) = nth_tree 1 (mark_tree m)
bin_op_tree (bins.SubAssign m) = nth_tree 2 (mark_tree m)
bin_op_tree (bins.MulAssign m) = nth_tree 3 (mark_tree m)
bin_op_tree (bins.DivAssign m) = nth_tree 4 (mark_tree m)
bin_op_tree (bins.RemAssign m) = nth_tree 5 (mark_tree m)
bin_op_tree (bins.BitXorAssign m) = nth_tree 6 (mark_tree m)
bin_op_tree (bins.BitAndAssign m) = nth_tree 7 (mark_tree m)
bin_op_tree (bins.BitOrAssign m) = nth_tree 8 (mark_tree m)
bin_op_tree (bins.ShlAssign m) = nth_tree 9 (mark_tree m)
bin_op_tree (bins.ShrAssign m) = nth_tree 10 (mark_tree m)

-- the form's kind is that of the operator, and its own part is the operator
abbrev pub Operates : Kind → Tree → BinOp → Type 0
Operates j y o = (j ≡ bin_op_kind o) × (y ≡ bin_op_tree o)

-- the kind is one of binary operators, and the own part has the shape of the kind's entry; = is none of them
abbrev pub IsOperator : Kind → Tree → Type 0
IsOperator k.ExprOr y = IsShaped y (table k.ExprOr)
IsOperator k.ExprAnd y = IsShaped y (table k.ExprAnd)
IsOperator k.ExprBitOr y = IsShaped y (table k.ExprBitOr)
IsOperator k.ExprBitXor y = IsShaped y (table k.ExprBitXor)
IsOperator k.ExprBitAnd y = IsShaped y (table k.ExprBitAnd)
IsOperator k.ExprSum y = IsShaped y (table k.ExprSum)
IsOperator k.ExprProduct y = IsShaped y (table k.ExprProduct)
IsOperator k.ExprShift y = IsShaped y (table k.ExprShift)
IsOperator k.ExprCompare y = IsShaped y (table k.ExprCompare)
IsOperator k.ExprAssign (t.Second y) = IsShaped (t.Second y) (table k.ExprAssign)
IsOperator _ _ = ⊥

-- the kind is one of both of ranges, and the own part has the shape of the kind's entry
abbrev pub IsLimits : Kind → Tree → Type 0
IsLimits k.ExprRange y = IsShaped y (table k.ExprRange)
IsLimits k.ExprRangeClosed y = IsShaped y (table k.ExprRangeClosed)
IsLimits _ _ = ⊥
