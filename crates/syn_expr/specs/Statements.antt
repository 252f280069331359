-- The trees that statements are.
use Rattle.syn_part.specs.Leaves.{mark_tree, optional_tree, turns_tree, word_tree}
use Rattle.syn_part.specs.Sub.{marked_type_tree, worded_tree}
use Rattle.std.specs.Prelude.{◌≡◌, ◌⊎◌, None, Option, Some}
use Rattle.syn_expr.specs.declared.stmt.BlockStmt.{BlockStmt}
use Rattle.syn_expr.specs.declared.stmt.LocalInit.{LocalInit}
use Rattle.syn_expr.specs.declared.stmt.Statements.{Statements}
use Rattle.syn_expr.specs.declared.stmt.OneStatement.{OneStatement}
use Rattle.syn_expr.specs.declared.stmt.Local.{Local}
use Rattle.syn_expr.specs.declared.stmt.StmtMacro.{StmtMacro}
use Rattle.syn_expr.specs.declared.stmt.StmtLocal.{StmtLocal}
use Rattle.syn_expr.specs.declared.stmt.StmtExpr.{StmtExpr}
use Rattle.syn_expr.specs.declared.stmt.Stmt.{Stmt}
use Rattle.syn_part.specs.declared.leaf.Mark.{Mark}
use Rattle.syn_part.specs.declared.sub.Worded.{Worded}
use Rattle.syn_expr.specs.declared.stmt.BlockStmt.TheVariants as turn
use Rattle.syn_expr.specs.declared.stmt.Stmt.TheVariants as stmts
use Rattle.syn_grammar.specs.Forms.{form_of}
use Rattle.syn_grammar.specs.Kind as k
use Rattle.syn_grammar.specs.Name as n
use Rattle.syn_grammar.specs.Tree as t
use Rattle.syn_grammar.specs.Tree.{Tree}
use Rattle.reader_tree.specs.Forms.{seconds}

-- the statements of a block, one behind the other, lone ; among them
abbrev pub statements : Statements → Tree
statements x = t.Node k.Statements (t.First (turns_tree x.stmts))

-- a statement by itself, as it is kept
abbrev pub one_statement : OneStatement → Tree
one_statement x = t.Node k.OneStatement (t.First x.stmt.now)

-- a lone ;, or a statement
abbrev pub block_stmt : BlockStmt → Tree
block_stmt (turn.Semi m) = t.First (mark_tree m)
block_stmt (turn.Stmt x) = t.Second x.now

-- else and a block, as a part
abbrev pub diverge_tree : Worded → Tree
diverge_tree x = t.Called n.the_else (worded_tree x)

-- the value of a let, with an else or without: = a else { .. }
abbrev pub local_init_tree : LocalInit → Tree
local_init_tree x = t.Pair (mark_tree x.eq_token) (t.Pair (t.Called n.the_value x.expr.now)
    (optional_tree diverge_tree x.diverge))

-- a let, behind its attributes, with a type or without, with a value or without: let a: T = b else { .. };
abbrev pub local : Local → Tree
local x = t.Node k.ALet (t.First (t.Pair (word_tree x.let_token) (t.Pair x.pat.now (t.Pair (optional_tree
    marked_type_tree x.ty) (t.Pair (optional_tree local_init_tree x.init) (mark_tree x.semi_token))))))

-- a ; behind a statement, as a part
abbrev pub semicolon_tree : Mark → Tree
semicolon_tree m = t.Called n.the_semicolon (mark_tree m)

-- a macro that is a statement by itself, with its attributes, and a ; or none: #[a] b! { c };
abbrev pub stmt_macro : StmtMacro → Tree
stmt_macro x = t.Pair x.attrs.now (t.Pair x.mac.now (optional_tree semicolon_tree x.semi_token))

-- a let, and its attributes
abbrev pub stmt_local : StmtLocal → Tree
stmt_local x = t.Pair x.attrs.now x.local.now

-- attributes, an expression, and a ; or none: #[a] b;
abbrev pub expression_tree : Tree → Tree → Option Mark → Tree
expression_tree a e s = t.Pair (t.Called n.the_attributes a) (t.Pair (t.Called n.the_expression e) (optional_tree
    semicolon_tree s))

-- an expression that is a statement, behind attributes, and a ; or none
abbrev pub stmt_expr : StmtExpr → Tree
stmt_expr x = expression_tree x.attrs.now x.expr.now x.semi_token

-- a form is a macro, and has no operand: a!(b)
abbrev pub macro_form : Tree → Option Tree
macro_form (t.Alone k.ExprMacro m) = Some m
macro_form _ = None

-- An expression is a macro and nothing else: its form is one. Nothing stands beside it then, neither attributes of the
-- expression's own nor an operator, and it doesn't go on, as a!(b).c does.
abbrev pub bare_macro : Tree → Option Tree
bare_macro e = macro_form (form_of e)

-- a macro is called where such an expression has a ; behind it, as in a!(b); and not at the end of a block
abbrev pub called_macro : Tree → Option Mark → Option Tree
called_macro e (Some s) = bare_macro e
called_macro e None = None

-- the alternative of expressions, in which the macro is called
abbrev pub IsCall : Tree → StmtMacro → Type 0
IsCall x y =
    (e : Tree) × (x ≡ seconds 4 (expression_tree y.attrs.now e y.semi_token)) × (called_macro e y.semi_token ≡ Some
    y.mac.now)

-- the alternative of a statement that was chosen: a macro is the second, or the fifth, an expression, if it is called
-- there; a let is the third, any other expression the fifth, and an item the first or the fourth, which both read one
abbrev pub IsAlternative : Tree → Stmt → Type 0
IsAlternative x (stmts.Item y) = (x ≡ t.First y.now) ⊎ (x ≡ seconds 3 (t.First y.now))
IsAlternative x (stmts.Macro y) = (x ≡ t.Second (t.First (stmt_macro y))) ⊎ IsCall x y
IsAlternative x (stmts.Local y) = x ≡ seconds 2 (t.First (stmt_local y))
IsAlternative x (stmts.Expr y) = (x ≡ seconds 4 (stmt_expr y)) × (called_macro y.expr.now y.semi_token ≡ None)

-- a node that is a statement, by its form
abbrev pub IsStmt : Tree → Stmt → Type 0
IsStmt (t.Node k.AStatement x) s = IsAlternative x s
IsStmt _ s = ⊥
