-- How operators are written, and where their marks stand.
use Rattle.std.specs.Prelude.{ℕ, List, codes}
use Rattle.rust_map.specs.declared.span.Span.{Span}
use Rattle.syn_leaf.specs.declared.operators.BinOp.{BinOp}
use Rattle.syn_leaf.specs.declared.operators.BinOp.TheVariants as binary
use Rattle.syn_leaf.specs.declared.operators.UnOp.{UnOp}
use Rattle.syn_leaf.specs.declared.operators.UnOp.TheVariants as unary
use Rattle.syn_leaf.specs.declared.operators.RangeLimits.{RangeLimits}
use Rattle.syn_leaf.specs.declared.operators.RangeLimits.TheVariants as range

abbrev pub bin_op_text : BinOp → List ℕ
bin_op_text (binary.Add t) = codes "+"
bin_op_text (binary.Sub t) = codes "-"
bin_op_text (binary.Mul t) = codes "*"
bin_op_text (binary.Div t) = codes "/"
bin_op_text (binary.Rem t) = codes "%"
bin_op_text (binary.And t) = codes "&&"
bin_op_text (binary.Or t) = codes "||"
bin_op_text (binary.BitXor t) = codes "^"
bin_op_text (binary.BitAnd t) = codes "&"
bin_op_text (binary.BitOr t) = codes "|"
bin_op_text (binary.Shl t) = codes "<<"
bin_op_text (binary.Shr t) = codes ">>"
bin_op_text (binary.Eq t) = codes "=="
bin_op_text (binary.Lt t) = codes "<"
bin_op_text (binary.Le t) = codes "<="
bin_op_text (binary.Ne t) = codes "!="
bin_op_text (binary.Ge t) = codes ">="
bin_op_text (binary.Gt t) = codes ">"
bin_op_text (binary.AddAssign t) = codes "+="
bin_op_text (binary.SubAssign t) = codes "-="
bin_op_text (binary.MulAssign t) = codes "*="
bin_op_text (binary.DivAssign t) = codes "/="
bin_op_text (binary.RemAssign t) = codes "%="
bin_op_text (binary.BitXorAssign t) = codes "^="
bin_op_text (binary.BitAndAssign t) = codes "&="
bin_op_text (binary.BitOrAssign t) = codes "|="
bin_op_text (binary.ShlAssign t) = codes "<<="
bin_op_text (binary.ShrAssign t) = codes ">>="

abbrev pub bin_op_spans : BinOp → List Span
bin_op_spans (binary.Add t) = t.spans
bin_op_spans (binary.Sub t) = t.spans
bin_op_spans (binary.Mul t) = t.spans
bin_op_spans (binary.Div t) = t.spans
bin_op_spans (binary.Rem t) = t.spans
bin_op_spans (binary.And t) = t.spans
bin_op_spans (binary.Or t) = t.spans
bin_op_spans (binary.BitXor t) = t.spans
bin_op_spans (binary.BitAnd t) = t.spans
bin_op_spans (binary.BitOr t) = t.spans
bin_op_spans (binary.Shl t) = t.spans
bin_op_spans (binary.Shr t) = t.spans
bin_op_spans (binary.Eq t) = t.spans
bin_op_spans (binary.Lt t) = t.spans
bin_op_spans (binary.Le t) = t.spans
bin_op_spans (binary.Ne t) = t.spans
bin_op_spans (binary.Ge t) = t.spans
bin_op_spans (binary.Gt t) = t.spans
bin_op_spans (binary.AddAssign t) = t.spans
bin_op_spans (binary.SubAssign t) = t.spans
bin_op_spans (binary.MulAssign t) = t.spans
bin_op_spans (binary.DivAssign t) = t.spans
bin_op_spans (binary.RemAssign t) = t.spans
bin_op_spans (binary.BitXorAssign t) = t.spans
bin_op_spans (binary.BitAndAssign t) = t.spans
bin_op_spans (binary.BitOrAssign t) = t.spans
bin_op_spans (binary.ShlAssign t) = t.spans
bin_op_spans (binary.ShrAssign t) = t.spans

abbrev pub un_op_text : UnOp → List ℕ
un_op_text (unary.Deref t) = codes "*"
un_op_text (unary.Not t) = codes "!"
un_op_text (unary.Neg t) = codes "-"

abbrev pub un_op_spans : UnOp → List Span
un_op_spans (unary.Deref t) = t.spans
un_op_spans (unary.Not t) = t.spans
un_op_spans (unary.Neg t) = t.spans

abbrev pub range_limits_text : RangeLimits → List ℕ
range_limits_text (range.HalfOpen t) = codes ".."
range_limits_text (range.Closed t) = codes "..="

abbrev pub range_limits_spans : RangeLimits → List Span
range_limits_spans (range.HalfOpen t) = t.spans
range_limits_spans (range.Closed t) = t.spans
