-- The trees that expressions are.
use Rattle.syn_part.specs.Leaves.{list_tree}
use Rattle.syn_ast.specs.Types.{no_lone}
use Rattle.syn_expr.specs.ExprForms.{IsAlone, IsBack, IsForm, IsFront, IsJump}
use Rattle.syn_part.specs.Shape.{IsShaped}
use Rattle.syn_grammar.specs.Table.{table}
use Rattle.std.specs.Prelude.{◌≡◌, ◌⊎◌}
use Rattle.syn_expr.specs.ExprInfix.{IsAssign, IsBinary}
use Rattle.syn_expr.specs.declared.expr.whole.ExprForm.{ExprForm}
use Rattle.syn_expr.specs.declared.expr.whole.ExprParen.{ExprParen}
use Rattle.syn_expr.specs.declared.expr.whole.ExprTuple.{ExprTuple}
use Rattle.syn_expr.specs.declared.expr.whole.ExprForm.TheVariants as exprs
use Rattle.syn_grammar.specs.Kind as k
use Rattle.syn_grammar.specs.Kind.{Kind}
use Rattle.syn_grammar.specs.Tree as t
use Rattle.syn_grammar.specs.Tree.{Tree}
use Rattle.std.specs.Prelude.{Bool, Option, Some, None, true, false}

-- an expression in parentheses: (a)
abbrev pub expr_paren : ExprParen → Tree
expr_paren x = t.Alone k.ExprParen (t.Group x.paren_token.delimiter (t.Final x.expr.now))

-- a tuple: (a, b); one expression without a comma is none
abbrev pub expr_tuple : ExprTuple → Tree
expr_tuple x = t.Alone k.ExprParen (t.Group x.paren_token.delimiter (no_lone (list_tree x.elems)))

-- one element stands there, and no mark behind it
abbrev pub is_final : Tree → Bool
is_final (t.Final x) = true
is_final _ = false

-- one element stands in a group, and no mark behind it
abbrev pub is_lone : Tree → Bool
is_lone (t.Group d x) = is_final x
is_lone _ = false

-- the first of a choice was chosen
abbrev pub is_first : Tree → Bool
is_first (t.First x) = true
is_first _ = false

-- which form one is by its kind: one by itself that is a block or is made of them
abbrev pub block_form : Kind → Option ExprForm
block_form k.ExprIf = Some exprs.If
block_form k.ExprMatch = Some exprs.Match
block_form k.ExprLoop = Some exprs.Loop
block_form k.ExprWhile = Some exprs.While
block_form k.ExprForLoop = Some exprs.ForLoop
block_form k.ExprBlock = Some exprs.Block
block_form k.ExprUnsafe = Some exprs.Unsafe
block_form k.ExprAsync = Some exprs.Async
block_form k.ExprConst = Some exprs.Const
block_form k.ExprTryBlock = Some exprs.TryBlock
block_form _ = None

-- one by itself that is none of these; in parentheses it is a tuple, unless one element stands there and no mark behind
-- it
abbrev pub atom_form : Kind → Bool → Option ExprForm
atom_form k.ExprLit b = Some exprs.Lit
atom_form k.ExprPath b = Some exprs.Path
atom_form k.ExprMacro b = Some exprs.Macro
atom_form k.ExprArray b = Some exprs.Array
atom_form k.ExprRepeat b = Some exprs.Repeat
atom_form k.ExprGroup b = Some exprs.Group
atom_form k.ExprInfer b = Some exprs.Infer
atom_form k.ExprContinue b = Some exprs.Continue
atom_form k.ExprParen true = Some exprs.Paren
atom_form k.ExprParen false = Some exprs.Tuple
atom_form k.ExprTypedClosure b = Some exprs.Closure
atom_form k.ExprBreak b = Some exprs.Break
atom_form k.ExprReturn b = Some exprs.Return
atom_form k.ExprYield b = Some exprs.Yield
atom_form k.ExprRange b = Some exprs.Range
atom_form j b = None

-- the first of both, if it is one
abbrev pub first_form : Option ExprForm → Option ExprForm → Option ExprForm
first_form (Some f) o = Some f
first_form None o = o

-- one by itself
abbrev pub alone_form : Kind → Bool → Option ExprForm
alone_form j b = first_form (block_form j) (atom_form j b)

-- one with an operand behind it, and none before it
abbrev pub front_form : Kind → Option ExprForm
front_form k.ExprAttributed = Some exprs.Attributed
front_form k.ExprUnary = Some exprs.Unary
front_form k.ExprRawAddr = Some exprs.RawAddr
front_form k.ExprReference = Some exprs.Reference
front_form k.ExprLet = Some exprs.Let
front_form k.ExprClosure = Some exprs.Closure
front_form k.ExprBreak = Some exprs.Break
front_form k.ExprReturn = Some exprs.Return
front_form k.ExprYield = Some exprs.Yield
front_form k.ExprRange = Some exprs.Range
front_form k.ExprRangeClosed = Some exprs.Range
front_form _ = None

-- one with an operand before it, and none behind it
abbrev pub back_form : Kind → Option ExprForm
back_form k.ExprStruct = Some exprs.Struct
back_form k.ExprCall = Some exprs.Call
back_form k.ExprMethodCall = Some exprs.MethodCall
back_form k.ExprField = Some exprs.Field
back_form k.ExprAwait = Some exprs.Await
back_form k.ExprIndex = Some exprs.Index
back_form k.ExprTry = Some exprs.Try
back_form k.ExprCast = Some exprs.Cast
back_form k.ExprRange = Some exprs.Range
back_form k.ExprRangeClosed = Some exprs.Range
back_form _ = None

-- one with an operand on either side: of the kind of assignments one by the first operator, which is =, is an
-- assignment, and one by another a binary operator
abbrev pub infix_form : Kind → Bool → Option ExprForm
infix_form k.ExprAssign true = Some exprs.Assign
infix_form k.ExprAssign false = Some exprs.Binary
infix_form k.ExprRange b = Some exprs.Range
infix_form k.ExprRangeClosed b = Some exprs.Range
infix_form k.ExprOr b = Some exprs.Binary
infix_form k.ExprAnd b = Some exprs.Binary
infix_form k.ExprCompare b = Some exprs.Binary
infix_form k.ExprBitOr b = Some exprs.Binary
infix_form k.ExprBitXor b = Some exprs.Binary
infix_form k.ExprBitAnd b = Some exprs.Binary
infix_form k.ExprShift b = Some exprs.Binary
infix_form k.ExprSum b = Some exprs.Binary
infix_form k.ExprProduct b = Some exprs.Binary
infix_form j b = None

-- which form a tree is: by its kind, by which operands it has, in parentheses by whether one element stands there, and
-- no mark behind it, and of an assignment's kind by its operator
abbrev pub which : Tree → Option ExprForm
which (t.Alone j y) = alone_form j (is_lone y)
which (t.Front j y r) = front_form j
which (t.Back l j y) = back_form j
which (t.Infix l j y r) = infix_form j (is_first y)
which _ = None

-- it stands in parentheses, one element and no mark behind it, or else, as is said, and its own part has the shape of
-- the kind's entry
abbrev pub IsParen : Bool → Tree → Type 0
IsParen b (t.Alone k.ExprParen y) = (is_lone y ≡ b) × IsShaped y (table k.ExprParen)
IsParen b _ = ⊥

-- a tree is of the form: it is of a kind of the form, has the operands of the kind, and its own part has the shape of
-- the kind's entry
abbrev pub IsOf : ExprForm → Tree → Type 0
IsOf exprs.If x = IsAlone x k.ExprIf
IsOf exprs.Match x = IsAlone x k.ExprMatch
IsOf exprs.Loop x = IsAlone x k.ExprLoop
IsOf exprs.While x = IsAlone x k.ExprWhile
IsOf exprs.ForLoop x = IsAlone x k.ExprForLoop
IsOf exprs.Block x = IsAlone x k.ExprBlock
IsOf exprs.Unsafe x = IsAlone x k.ExprUnsafe
IsOf exprs.Async x = IsAlone x k.ExprAsync
IsOf exprs.Const x = IsAlone x k.ExprConst
IsOf exprs.TryBlock x = IsAlone x k.ExprTryBlock
IsOf exprs.Lit x = IsAlone x k.ExprLit
IsOf exprs.Path x = IsAlone x k.ExprPath
IsOf exprs.Macro x = IsAlone x k.ExprMacro
IsOf exprs.Array x = IsAlone x k.ExprArray
IsOf exprs.Repeat x = IsAlone x k.ExprRepeat
IsOf exprs.Group x = IsAlone x k.ExprGroup
IsOf exprs.Infer x = IsAlone x k.ExprInfer
IsOf exprs.Continue x = IsAlone x k.ExprContinue
IsOf exprs.Paren x = IsParen true x
IsOf exprs.Tuple x = IsParen false x
IsOf exprs.Struct x = IsBack x k.ExprStruct
IsOf exprs.Call x = IsBack x k.ExprCall
IsOf exprs.MethodCall x = IsBack x k.ExprMethodCall
IsOf exprs.Field x = IsBack x k.ExprField
IsOf exprs.Await x = IsBack x k.ExprAwait
IsOf exprs.Index x = IsBack x k.ExprIndex
IsOf exprs.Try x = IsBack x k.ExprTry
IsOf exprs.Cast x = IsBack x k.ExprCast
IsOf exprs.Attributed x = IsFront x k.ExprAttributed
IsOf exprs.Unary x = IsFront x k.ExprUnary
IsOf exprs.RawAddr x = IsFront x k.ExprRawAddr
IsOf exprs.Reference x = IsFront x k.ExprReference
IsOf exprs.Let x = IsFront x k.ExprLet
IsOf exprs.Closure x = IsFront x k.ExprClosure ⊎ IsAlone x k.ExprTypedClosure
IsOf exprs.Break x = IsJump x k.ExprBreak
IsOf exprs.Return x = IsJump x k.ExprReturn
IsOf exprs.Yield x = IsJump x k.ExprYield
IsOf exprs.Range x = IsForm x k.ExprRange ⊎ IsForm x k.ExprRangeClosed
IsOf exprs.Assign x = IsAssign x
IsOf exprs.Binary x = IsBinary x

-- an expression: a tree that is of one of the forms, which is the one that it is by its kind and its operands
abbrev pub IsExpr : Tree → Type 0
IsExpr x = (f : ExprForm) × (which x ≡ Some f) × IsOf f x
