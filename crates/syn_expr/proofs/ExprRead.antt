-- What was read as an expression is a form of one of the kinds, with the operands that the kind has.
use Rattle.std.specs.Prelude.{◌≡◌, Bool, true, false, cond, ◌&&◌, ◌++◌, List, [], ◌∷◌, Option, Some, None, refl}
use Rattle.std.proofs.Common.{ap, inl, inr, subst, sym}
use Rattle.proc_macro2.specs.Token.{Token}
use Rattle.syn_grammar.specs.Kind.{Kind, Position, Plain, InCondition, InArm, InStatement, ExprAnd, ExprArray}
use Rattle.syn_grammar.specs.Kind.{ExprAssign, ExprAsync, ExprAttributed, ExprAwait, ExprBitAnd, ExprBitOr}
use Rattle.syn_grammar.specs.Kind.{ExprBitXor, ExprBlock, ExprBreak, ExprCall, ExprCast, ExprClosure, ExprCompare}
use Rattle.syn_grammar.specs.Kind.{ExprConst, ExprContinue, ExprField, ExprForLoop, ExprGroup, ExprIf, ExprIndex}
use Rattle.syn_grammar.specs.Kind.{ExprInfer, ExprLet, ExprLit, ExprLoop, ExprMacro, ExprMatch, ExprMethodCall}
use Rattle.syn_grammar.specs.Kind.{ExprOr, ExprParen, ExprPath, ExprProduct, ExprRange, ExprRangeClosed, ExprRawAddr}
use Rattle.syn_grammar.specs.Kind.{ExprReference, ExprRepeat, ExprReturn, ExprShift, ExprStruct, ExprSum, ExprTry}
use Rattle.syn_grammar.specs.Kind.{ExprTryBlock, ExprTypedClosure, ExprUnary, ExprUnsafe, ExprWhile, ExprYield}
use Rattle.syn_grammar.specs.Look.{seen}
use Rattle.syn_grammar.specs.Tree.{Tree, First, Second, Whole, Node, Alone, Front, Back, Infix, flat}
use Rattle.syn_grammar.specs.Gram.{ref}
use Rattle.syn_grammar.specs.Kind.{Expression}
use Rattle.syn_grammar.specs.Table.{table}
use Rattle.syn_grammar.specs.Derives.{Derives, Bound}
use Rattle.syn_grammar.specs.Forms.{Case, form, first_form, fronts, backs, front, back, has_right, level, form_of}
use Rattle.syn_part.specs.Shape.{IsShaped}
use Rattle.syn_expr.specs.ExprWhole.{IsExpr, alone_form, is_lone}
use Rattle.syn_expr.specs.declared.expr.whole.ExprForm.TheVariants as exprs
use Rattle.syn_part.proofs.Derived.{shaped}

-- The kinds of forms that begin with tokens, and of those that have an operand before them; and what these are by the
-- operands that they have.
abbrev begins : Kind → Bool
begins ExprAttributed = true
begins ExprLit = true
begins ExprBlock = true
begins ExprLoop = true
begins ExprWhile = true
begins ExprTypedClosure = true
begins ExprClosure = true
begins ExprForLoop = true
begins ExprParen = true
begins ExprRepeat = true
begins ExprArray = true
begins ExprGroup = true
begins ExprInfer = true
begins ExprUnsafe = true
begins ExprAsync = true
begins ExprConst = true
begins ExprTryBlock = true
begins ExprIf = true
begins ExprMatch = true
begins ExprContinue = true
begins ExprBreak = true
begins ExprReturn = true
begins ExprYield = true
begins ExprLet = true
begins ExprRawAddr = true
begins ExprReference = true
begins ExprUnary = true
begins ExprRangeClosed = true
begins ExprRange = true
begins ExprMacro = true
begins ExprPath = true
begins _ = false

abbrev follows : Kind → Bool
follows ExprAssign = true
follows ExprCompare = true
follows ExprOr = true
follows ExprAnd = true
follows ExprShift = true
follows ExprBitOr = true
follows ExprBitXor = true
follows ExprBitAnd = true
follows ExprSum = true
follows ExprProduct = true
follows ExprRangeClosed = true
follows ExprRange = true
follows ExprCast = true
follows ExprStruct = true
follows ExprCall = true
follows ExprIndex = true
follows ExprTry = true
follows ExprAwait = true
follows ExprMethodCall = true
follows ExprField = true
follows _ = false

-- each kind of some cases passes
abbrev each_case : (Kind → Bool) → List Case → Bool
each_case q [] = true
each_case q (form k sight ∷ cases) = q k && each_case q cases

and_true : (a b : Bool) → (a && b) ≡ true → (a ≡ true) × (b ≡ true)
and_true true b e = (refl, e)
and_true false b e = cc

same_kind : (q : Kind → Bool) (k l : Kind) → Some k ≡ Some l → q k ≡ true → q l ≡ true
same_kind q k l e h = subst (λ o. OnSome q o) e h
  where
    OnSome : (Kind → Bool) → Option Kind → Type 0
    OnSome q None = Unit {0}
    OnSome q (Some k) = q k ≡ true

one_case : (q : Kind → Bool) (b : Bool) (l k : Kind) (o : Option Kind) → q l ≡ true
    → (o ≡ Some k → q k ≡ true) → cond b (Some l) o ≡ Some k → q k ≡ true
one_case q true l k o h i e = same_kind q l k e h
one_case q false l k o h i e = i e

first_case : (q : Kind → Bool) (cases : List Case) → each_case q cases ≡ true → (ts : List Token) (k : Kind)
    → first_form cases ts ≡ Some k → q k ≡ true
first_case q [] h ts k e = cc
first_case q (form l sight ∷ cases) h ts k e =
    let a = and_true (q l) (each_case q cases) h in
    one_case q (seen (sight ts)) l k (first_form cases ts) a.0 (λ f. first_case q cases a.1 ts k f) e

begun : (p : Position) → each_case begins (fronts p) ≡ true
begun Plain = refl
begun InCondition = refl
begun InArm = refl
begun InStatement = refl

followed : (p : Position) → each_case follows (backs p) ≡ true
followed Plain = refl
followed InCondition = refl
followed InArm = refl
followed InStatement = refl

in_front : (p : Position) (ts : List Token) (k : Kind) → front p ts ≡ Some k → begins k ≡ true
unfolding front
in_front p ts k e = first_case begins (fronts p) (begun p) ts k e

behind : (p : Position) (ts : List Token) (k : Kind) → back p ts ≡ Some k → follows k ≡ true
unfolding back
behind p ts k e = first_case follows (backs p) (followed p) ts k e

in_parentheses : (b : Bool) (y : Tree) → is_lone y ≡ b → IsShaped y (table ExprParen) → IsExpr (Alone ExprParen y)
in_parentheses true y e h = (exprs.Paren, ap (alone_form ExprParen) e, (e, h))
in_parentheses false y e h = (exprs.Tuple, ap (alone_form ExprParen) e, (e, h))

paren : (y : Tree) → IsShaped y (table ExprParen) → IsExpr (Alone ExprParen y)
paren y h = in_parentheses (is_lone y) y refl h

alone_expr : (p : Position) (k : Kind) (y : Tree) (ts : List Token) → begins k ≡ true → has_right p k ts ≡ false
    → IsShaped y (table k) → IsExpr (Alone k y)
unfolding has_right level table
alone_expr p ExprAttributed y ts b r h = cc
alone_expr p ExprLit y ts b r h = (exprs.Lit, refl, (refl, h))
alone_expr p ExprBlock y ts b r h = (exprs.Block, refl, (refl, h))
alone_expr p ExprLoop y ts b r h = (exprs.Loop, refl, (refl, h))
alone_expr p ExprWhile y ts b r h = (exprs.While, refl, (refl, h))
alone_expr p ExprTypedClosure y ts b r h = (exprs.Closure, refl, inr (refl, h))
alone_expr p ExprClosure y ts b r h = cc
alone_expr p ExprForLoop y ts b r h = (exprs.ForLoop, refl, (refl, h))
alone_expr p ExprParen y ts b r h = paren y h
alone_expr p ExprRepeat y ts b r h = (exprs.Repeat, refl, (refl, h))
alone_expr p ExprArray y ts b r h = (exprs.Array, refl, (refl, h))
alone_expr p ExprGroup y ts b r h = (exprs.Group, refl, (refl, h))
alone_expr p ExprInfer y ts b r h = (exprs.Infer, refl, (refl, h))
alone_expr p ExprUnsafe y ts b r h = (exprs.Unsafe, refl, (refl, h))
alone_expr p ExprAsync y ts b r h = (exprs.Async, refl, (refl, h))
alone_expr p ExprConst y ts b r h = (exprs.Const, refl, (refl, h))
alone_expr p ExprTryBlock y ts b r h = (exprs.TryBlock, refl, (refl, h))
alone_expr p ExprIf y ts b r h = (exprs.If, refl, (refl, h))
alone_expr p ExprMatch y ts b r h = (exprs.Match, refl, (refl, h))
alone_expr p ExprContinue y ts b r h = (exprs.Continue, refl, (refl, h))
alone_expr p ExprBreak y ts b r h = (exprs.Break, refl, (refl, h))
alone_expr p ExprReturn y ts b r h = (exprs.Return, refl, (refl, h))
alone_expr p ExprYield y ts b r h = (exprs.Yield, refl, (refl, h))
alone_expr p ExprLet y ts b r h = cc
alone_expr p ExprRawAddr y ts b r h = cc
alone_expr p ExprReference y ts b r h = cc
alone_expr p ExprUnary y ts b r h = cc
alone_expr p ExprRangeClosed y ts b r h = cc
alone_expr p ExprRange y ts b r h = (exprs.Range, refl, inl (refl, h))
alone_expr p ExprMacro y ts b r h = (exprs.Macro, refl, (refl, h))
alone_expr p ExprPath y ts b r h = (exprs.Path, refl, (refl, h))
alone_expr p _ y ts b r h = cc

front_expr : (p : Position) (k : Kind) (y x : Tree) (ts : List Token) → begins k ≡ true → has_right p k ts ≡ true
    → IsShaped y (table k) → IsExpr (Front k y x)
unfolding has_right level table
front_expr p ExprAttributed y x ts b r h = (exprs.Attributed, refl, (refl, h))
front_expr p ExprLit y x ts b r h = cc
front_expr p ExprBlock y x ts b r h = cc
front_expr p ExprLoop y x ts b r h = cc
front_expr p ExprWhile y x ts b r h = cc
front_expr p ExprTypedClosure y x ts b r h = cc
front_expr p ExprClosure y x ts b r h = (exprs.Closure, refl, inl (refl, h))
front_expr p ExprForLoop y x ts b r h = cc
front_expr p ExprParen y x ts b r h = cc
front_expr p ExprRepeat y x ts b r h = cc
front_expr p ExprArray y x ts b r h = cc
front_expr p ExprGroup y x ts b r h = cc
front_expr p ExprInfer y x ts b r h = cc
front_expr p ExprUnsafe y x ts b r h = cc
front_expr p ExprAsync y x ts b r h = cc
front_expr p ExprConst y x ts b r h = cc
front_expr p ExprTryBlock y x ts b r h = cc
front_expr p ExprIf y x ts b r h = cc
front_expr p ExprMatch y x ts b r h = cc
front_expr p ExprContinue y x ts b r h = cc
front_expr p ExprBreak y x ts b r h = (exprs.Break, refl, (refl, h))
front_expr p ExprReturn y x ts b r h = (exprs.Return, refl, (refl, h))
front_expr p ExprYield y x ts b r h = (exprs.Yield, refl, (refl, h))
front_expr p ExprLet y x ts b r h = (exprs.Let, refl, (refl, h))
front_expr p ExprRawAddr y x ts b r h = (exprs.RawAddr, refl, (refl, h))
front_expr p ExprReference y x ts b r h = (exprs.Reference, refl, (refl, h))
front_expr p ExprUnary y x ts b r h = (exprs.Unary, refl, (refl, h))
front_expr p ExprRangeClosed y x ts b r h = (exprs.Range, refl, inr (refl, h))
front_expr p ExprRange y x ts b r h = (exprs.Range, refl, inl (refl, h))
front_expr p ExprMacro y x ts b r h = cc
front_expr p ExprPath y x ts b r h = cc
front_expr p _ y x ts b r h = cc

back_expr : (p : Position) (k : Kind) (l y : Tree) (ts : List Token) → follows k ≡ true → has_right p k ts ≡ false
    → IsShaped y (table k) → IsExpr (Back l k y)
unfolding has_right level table
back_expr p ExprAssign l y ts b r h = cc
back_expr p ExprCompare l y ts b r h = cc
back_expr p ExprOr l y ts b r h = cc
back_expr p ExprAnd l y ts b r h = cc
back_expr p ExprShift l y ts b r h = cc
back_expr p ExprBitOr l y ts b r h = cc
back_expr p ExprBitXor l y ts b r h = cc
back_expr p ExprBitAnd l y ts b r h = cc
back_expr p ExprSum l y ts b r h = cc
back_expr p ExprProduct l y ts b r h = cc
back_expr p ExprRangeClosed l y ts b r h = cc
back_expr p ExprRange l y ts b r h = (exprs.Range, refl, inl (refl, h))
back_expr p ExprCast l y ts b r h = (exprs.Cast, refl, (refl, h))
back_expr p ExprStruct l y ts b r h = (exprs.Struct, refl, (refl, h))
back_expr p ExprCall l y ts b r h = (exprs.Call, refl, (refl, h))
back_expr p ExprIndex l y ts b r h = (exprs.Index, refl, (refl, h))
back_expr p ExprTry l y ts b r h = (exprs.Try, refl, (refl, h))
back_expr p ExprAwait l y ts b r h = (exprs.Await, refl, (refl, h))
back_expr p ExprMethodCall l y ts b r h = (exprs.MethodCall, refl, (refl, h))
back_expr p ExprField l y ts b r h = (exprs.Field, refl, (refl, h))
back_expr p _ l y ts b r h = cc

infix_expr : (p : Position) (k : Kind) (l y r : Tree) (ts : List Token) → follows k ≡ true → has_right p k ts ≡ true
    → IsShaped y (table k) → IsExpr (Infix l k y r)
unfolding has_right level table
infix_expr p ExprAssign l (First y) r ts b q h = (exprs.Assign, refl, (refl, h, tt))
infix_expr p ExprAssign l (Second y) r ts b q h = (exprs.Binary, refl, h)
infix_expr p ExprAssign l y r ts b q h = absurd h
infix_expr p ExprCompare l y r ts b q h = (exprs.Binary, refl, h)
infix_expr p ExprOr l y r ts b q h = (exprs.Binary, refl, h)
infix_expr p ExprAnd l y r ts b q h = (exprs.Binary, refl, h)
infix_expr p ExprShift l y r ts b q h = (exprs.Binary, refl, h)
infix_expr p ExprBitOr l y r ts b q h = (exprs.Binary, refl, h)
infix_expr p ExprBitXor l y r ts b q h = (exprs.Binary, refl, h)
infix_expr p ExprBitAnd l y r ts b q h = (exprs.Binary, refl, h)
infix_expr p ExprSum l y r ts b q h = (exprs.Binary, refl, h)
infix_expr p ExprProduct l y r ts b q h = (exprs.Binary, refl, h)
infix_expr p ExprRangeClosed l y r ts b q h = (exprs.Range, refl, inr (refl, h))
infix_expr p ExprRange l y r ts b q h = (exprs.Range, refl, inl (refl, h))
infix_expr p ExprCast l y r ts b q h = cc
infix_expr p ExprStruct l y r ts b q h = cc
infix_expr p ExprCall l y r ts b q h = cc
infix_expr p ExprIndex l y r ts b q h = cc
infix_expr p ExprTry l y r ts b q h = cc
infix_expr p ExprAwait l y r ts b q h = cc
infix_expr p ExprMethodCall l y r ts b q h = cc
infix_expr p ExprField l y r ts b q h = cc
infix_expr p _ l y r ts b q h = cc

-- an operand
pub bound : (p : Position) (x : Tree) (rest : List Token) → Bound p x rest → IsExpr x
bound p (Alone k y) rest b = alone_expr p k y rest (in_front p _ k b.0) b.2 (shaped y (table k) rest b.1)
bound p (Front k y x) rest b =
    front_expr p k y x (flat x ++ rest) (in_front p _ k b.0) b.2 (shaped y (table k) (flat x ++ rest) b.1)
bound p (Back l k y) rest b = back_expr p k l y rest (behind p _ k b.0) b.2 (shaped y (table k) rest b.1)
bound p (Infix l k y r) rest b =
    infix_expr p k l y r (flat r ++ rest) (behind p _ k b.0) b.2 (shaped y (table k) (flat r ++ rest) b.1)
bound p _ rest b = absurd b

-- a whole expression
inside : (p : Position) (x : Tree) (rest : List Token) → Derives x (table (Expression p)) rest → IsExpr (form_of (Node
    (Expression p) x))
unfolding table
inside p (Whole x) rest d = bound p x rest d.1
inside p _ rest d = absurd d

pub whole : (p : Position) (x : Tree) (rest : List Token) → Derives x (ref (Expression p)) rest → IsExpr (form_of x)
whole p (Node k x) rest d =
    subst (λ j. Derives x (table j) rest → IsExpr (form_of (Node j x))) (sym d.0) (inside p x rest) d.1
whole p _ rest d = absurd d
