-- Own parts that nothing behind them changes: a word, a literal, a punctuation or a group.
use Rattle.std.specs.Prelude.{◌≡◌, Bool, true, false, []}
use Rattle.syn_grammar.specs.Kind.{Kind, ExprLit, ExprParen, ExprGroup, ExprInfer, ExprUnsafe, ExprTryBlock, ExprReturn}
use Rattle.syn_grammar.specs.Kind.{ExprYield, ExprUnary, ExprRange, ExprRangeClosed, ExprCall, ExprIndex, ExprTry}
use Rattle.syn_grammar.specs.Kind.{ExprAssign, ExprOr, ExprAnd, ExprCompare, ExprBitOr, ExprBitXor, ExprBitAnd}
use Rattle.syn_grammar.specs.Kind.{ExprShift, ExprSum, ExprProduct}
use Rattle.syn_grammar.specs.Tree.{Tree, flat}
use Rattle.syn_grammar.specs.Table.{table}
use Rattle.syn_grammar.specs.Derives.{Derives}
use Rattle.syn_grammar.specs.Kept.{kept}
use Rattle.syn_grammar.specs.Normal.{normal}

-- The kinds of forms that begin with such an own part,
abbrev pub is_firm_front : Kind → Bool
is_firm_front ExprLit = true
is_firm_front ExprParen = true
is_firm_front ExprGroup = true
is_firm_front ExprInfer = true
is_firm_front ExprUnsafe = true
is_firm_front ExprTryBlock = true
is_firm_front ExprReturn = true
is_firm_front ExprYield = true
is_firm_front ExprUnary = true
is_firm_front ExprRange = true
is_firm_front ExprRangeClosed = true
is_firm_front k = false

-- and those that have it behind an operand.
abbrev pub is_firm_behind : Kind → Bool
is_firm_behind ExprCall = true
is_firm_behind ExprIndex = true
is_firm_behind ExprTry = true
is_firm_behind ExprRange = true
is_firm_behind ExprRangeClosed = true
is_firm_behind ExprAssign = true
is_firm_behind ExprOr = true
is_firm_behind ExprAnd = true
is_firm_behind ExprCompare = true
is_firm_behind ExprBitOr = true
is_firm_behind ExprBitXor = true
is_firm_behind ExprBitAnd = true
is_firm_behind ExprShift = true
is_firm_behind ExprSum = true
is_firm_behind ExprProduct = true
is_firm_behind k = false

-- It is read by itself, and its tokens are those of the normal form of what is held of it.
abbrev pub IsOwn : Kind → Tree → Type 0
IsOwn k y = Derives y (table k) [] × (flat (normal (kept y)) ≡ flat y)
