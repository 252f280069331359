-- Which values of the types of expressions and of what is made of them are trees, where their fields may contradict
-- each other.
use Rattle.reader_table.specs.declared.word.Sign.TheVariants as signs
use Rattle.proc_macro2.specs.declared.delimiter.Delimiter.TheVariants.{Parenthesis}
use Rattle.std.specs.Prelude.{◌≡◌, Bool, true, false, None, Option, Some, cond}
use Rattle.syn_part.specs.Leaves.{mark_tree, optional_tree, word_tree}
use Rattle.syn_part.specs.Sub.{marked_type_tree}
use Rattle.syn_part.specs.declared.leaf.Mark.{Mark}
use Rattle.syn_ast.specs.declared.paths.Member.{Member}
use Rattle.syn_ast.specs.declared.paths.Member.TheVariants as members
use Rattle.syn_part.specs.declared.sub.Worded.{Worded}
use Rattle.syn_expr.specs.Statements.{diverge_tree}
use Rattle.syn_expr.specs.declared.expr.ops.BinOp.{BinOp}
use Rattle.syn_expr.specs.declared.expr.ops.BinOp.TheVariants as bins
use Rattle.syn_expr.specs.declared.expr.ops.UnOp.{UnOp}
use Rattle.syn_expr.specs.declared.expr.ops.UnOp.TheVariants as uns
use Rattle.syn_expr.specs.declared.stmt.Local.{Local}
use Rattle.syn_expr.specs.declared.stmt.LocalInit.{LocalInit}
use Rattle.syn_grammar.specs.Kind as k
use Rattle.syn_grammar.specs.Name as n
use Rattle.syn_grammar.specs.Statements.{ends_in_braces}
use Rattle.syn_grammar.specs.Tree as t
use Rattle.syn_grammar.specs.Tree.{Tree, flat}
use Rattle.syn_made.specs.MadeAst.{IsSign}
use denote.Bor.{Bor}

-- where the braces end with an arm's body, no comma stands behind it
abbrev pub IsArmEnd : Bool → Option Mark → Type 0
IsArmEnd true (Some m) = ⊥
IsArmEnd _ _ = Unit {0}

-- a field has : and a value, or neither of both, and is a name then
abbrev pub IsFieldInit : Member → Option Mark → Option (Bor Tree) → Type 0
IsFieldInit m (Some c) (Some e) = Unit {0}
IsFieldInit (members.Named i) None None = Unit {0}
IsFieldInit _ _ _ = ⊥

-- an expression in parentheses, as an expression
abbrev pub in_parentheses : Tree → Tree
in_parentheses x = t.Node (k.Expression k.Plain) (t.Whole (t.Alone k.ExprParen (t.Group Parenthesis (t.Final x))))

-- the value of a let: before else, one that ends in braces stands in parentheses
abbrev pub closed_value : Tree → Tree
closed_value x = cond (ends_in_braces (flat x)) (in_parentheses x) x

abbrev pub value_before : Option Worded → Tree → Tree
value_before None x = x
value_before (Some d) x = closed_value x

-- = and the value of a let, and perhaps else and a block
abbrev pub made_init : LocalInit → Tree
made_init x = t.Pair (mark_tree x.eq_token) (t.Pair (t.Called n.the_value (value_before x.diverge x.expr.now))
    (optional_tree diverge_tree x.diverge))

-- a let, behind its attributes
abbrev pub made_local : Local → Tree
made_local x = t.Node k.ALet (t.First (t.Pair (word_tree x.let_token) (t.Pair x.pat.now (t.Pair (optional_tree
    marked_type_tree x.ty) (t.Pair (optional_tree made_init x.init) (mark_tree x.semi_token))))))

-- the punctuation of a unary operator is that operator's
abbrev pub IsUnary : UnOp → Type 0
IsUnary (uns.Deref m) = IsSign signs.Star m
IsUnary (uns.Not m) = IsSign signs.Not m
IsUnary (uns.Neg m) = IsSign signs.Minus m

-- and of a binary operator likewise
abbrev pub IsBinary : BinOp → Type 0
IsBinary (bins.Add m) = IsSign signs.Plus m
IsBinary (bins.Sub m) = IsSign signs.Minus m
IsBinary (bins.Mul m) = IsSign signs.Star m
IsBinary (bins.Div m) = IsSign signs.Slash m
IsBinary (bins.Rem m) = IsSign signs.Percent m
IsBinary (bins.And m) = IsSign signs.AndAnd m
IsBinary (bins.Or m) = IsSign signs.OrOr m
IsBinary (bins.BitXor m) = IsSign signs.Caret m
IsBinary (bins.BitAnd m) = IsSign signs.And m
IsBinary (bins.BitOr m) = IsSign signs.Or m
IsBinary (bins.Shl m) = IsSign signs.Shl m
IsBinary (bins.Shr m) = IsSign signs.Shr m
IsBinary (bins.Eq m) = IsSign signs.EqEq m
IsBinary (bins.Lt m) = IsSign signs.Lt m
IsBinary (bins.Le m) = IsSign signs.Le m
IsBinary (bins.Ne m) = IsSign signs.Ne m
IsBinary (bins.Ge m) = IsSign signs.Ge m
IsBinary (bins.Gt m) = IsSign signs.Gt m
IsBinary (bins.AddAssign m) = IsSign signs.PlusEq m
IsBinary (bins.SubAssign m) = IsSign signs.MinusEq m
IsBinary (bins.MulAssign m) = IsSign signs.StarEq m
IsBinary (bins.DivAssign m) = IsSign signs.SlashEq m
IsBinary (bins.RemAssign m) = IsSign signs.PercentEq m
IsBinary (bins.BitXorAssign m) = IsSign signs.CaretEq m
IsBinary (bins.BitAndAssign m) = IsSign signs.AndEq m
IsBinary (bins.BitOrAssign m) = IsSign signs.OrEq m
IsBinary (bins.ShlAssign m) = IsSign signs.ShlEq m
IsBinary (bins.ShrAssign m) = IsSign signs.ShrEq m
