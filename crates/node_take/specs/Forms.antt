-- The kinds of the forms of an expression, and the tree that one is.
use Rattle.syn_grammar.specs.Kind as k
use Rattle.syn_grammar.specs.Kind.{Kind}
use Rattle.syn_grammar.specs.Tree as t
use Rattle.syn_grammar.specs.Tree.{Tree}
use Rattle.node_take.specs.declared.form.Formed.{Formed}
use Rattle.node_take.specs.declared.form.Formed.TheVariants as forms
use Rattle.node_take.specs.declared.form.Alone.{Alone}
use Rattle.node_take.specs.declared.form.Alone.TheVariants as alones
use Rattle.node_take.specs.declared.form.Before.{Before}
use Rattle.node_take.specs.declared.form.Before.TheVariants as befores
use Rattle.node_take.specs.declared.form.Behind.{Behind}
use Rattle.node_take.specs.declared.form.Behind.TheVariants as behinds
use Rattle.node_take.specs.declared.form.Between.{Between}
use Rattle.node_take.specs.declared.form.Between.TheVariants as betweens

abbrev pub alone_kind : Alone → Kind
alone_kind alones.Lit = k.ExprLit
alone_kind alones.Path = k.ExprPath
alone_kind alones.Macro = k.ExprMacro
alone_kind alones.Paren = k.ExprParen
alone_kind alones.Array = k.ExprArray
alone_kind alones.Repeat = k.ExprRepeat
alone_kind alones.Group = k.ExprGroup
alone_kind alones.Infer = k.ExprInfer
alone_kind alones.Block = k.ExprBlock
alone_kind alones.Unsafe = k.ExprUnsafe
alone_kind alones.Async = k.ExprAsync
alone_kind alones.Const = k.ExprConst
alone_kind alones.TryBlock = k.ExprTryBlock
alone_kind alones.If = k.ExprIf
alone_kind alones.Match = k.ExprMatch
alone_kind alones.Loop = k.ExprLoop
alone_kind alones.While = k.ExprWhile
alone_kind alones.ForLoop = k.ExprForLoop
alone_kind alones.Continue = k.ExprContinue
alone_kind alones.TypedClosure = k.ExprTypedClosure
alone_kind alones.Break = k.ExprBreak
alone_kind alones.Return = k.ExprReturn
alone_kind alones.Yield = k.ExprYield
alone_kind alones.Range = k.ExprRange

abbrev pub before_kind : Before → Kind
before_kind befores.Attributed = k.ExprAttributed
before_kind befores.Unary = k.ExprUnary
before_kind befores.RawAddr = k.ExprRawAddr
before_kind befores.Reference = k.ExprReference
before_kind befores.Let = k.ExprLet
before_kind befores.Break = k.ExprBreak
before_kind befores.Return = k.ExprReturn
before_kind befores.Yield = k.ExprYield
before_kind befores.Closure = k.ExprClosure
before_kind befores.Range = k.ExprRange
before_kind befores.RangeClosed = k.ExprRangeClosed

abbrev pub behind_kind : Behind → Kind
behind_kind behinds.Struct = k.ExprStruct
behind_kind behinds.Call = k.ExprCall
behind_kind behinds.MethodCall = k.ExprMethodCall
behind_kind behinds.Field = k.ExprField
behind_kind behinds.Await = k.ExprAwait
behind_kind behinds.Index = k.ExprIndex
behind_kind behinds.Try = k.ExprTry
behind_kind behinds.Cast = k.ExprCast
behind_kind behinds.Range = k.ExprRange

abbrev pub between_kind : Between → Kind
between_kind betweens.Range = k.ExprRange
between_kind betweens.RangeClosed = k.ExprRangeClosed
between_kind betweens.Assign = k.ExprAssign
between_kind betweens.Or = k.ExprOr
between_kind betweens.And = k.ExprAnd
between_kind betweens.Compare = k.ExprCompare
between_kind betweens.BitOr = k.ExprBitOr
between_kind betweens.BitXor = k.ExprBitXor
between_kind betweens.BitAnd = k.ExprBitAnd
between_kind betweens.Shift = k.ExprShift
between_kind betweens.Sum = k.ExprSum
between_kind betweens.Product = k.ExprProduct

-- its own part, and its operands
abbrev pub formed_tree : Formed → Tree
formed_tree (forms.Alone i y) = t.Alone (alone_kind i) y.now
formed_tree (forms.Before i y x) = t.Front (before_kind i) y.now x.now
formed_tree (forms.Behind l i y) = t.Back l.now (behind_kind i) y.now
formed_tree (forms.Between l i y r) = t.Infix l.now (between_kind i) y.now r.now
