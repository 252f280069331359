-- What stands in the tree of a statement: the form behind the alternatives before its own.
use Rattle.reader_tree.specs.Forms.{seconds}
use Rattle.std.specs.Prelude.{◌≡◌, Bool, false, None, Option, Some, cond, not}
use Rattle.syn_part.specs.declared.leaf.Mark.{Mark}
use Rattle.syn_expr.specs.Statements.{called_macro, expression_tree, stmt_expr, stmt_local, stmt_macro}
use Rattle.syn_expr.specs.declared.stmt.Stmt.{Stmt}
use Rattle.syn_expr.specs.declared.stmt.Stmt.TheVariants as stmts
use Rattle.syn_expr.specs.declared.stmt.StmtMacro.{StmtMacro}
use Rattle.syn_grammar.specs.Kind as k
use Rattle.syn_grammar.specs.Name as n
use Rattle.syn_grammar.specs.Part.{choice, has, the}
use Rattle.syn_grammar.specs.Statements.{ends_in_braces}
use Rattle.syn_grammar.specs.Tree as t
use Rattle.syn_grammar.specs.Tree.{Tree, flat}

-- the form of an item is a macro that has a name behind its !
abbrev pub is_macro_form : Tree → Bool
is_macro_form (t.Node (k.ItemMacro p) x) = has n.the_name x
is_macro_form _ = false

-- an item is such a macro: what was chosen of the part that has its form is one
abbrev pub is_macro_item : Tree → Bool
is_macro_item (t.Node i x) = is_macro_form (choice (the n.the_item x))
is_macro_item _ = false

-- a macro is read as an expression where it is in parentheses or brackets and has a ; behind it
abbrev pub is_call : Tree → Option Mark → Bool
is_call m (Some s) = not (ends_in_braces (flat m))
is_call m None = false

-- a macro as an expression of a statement
abbrev pub as_expression : Tree → Tree
as_expression m = t.Node (k.Expression k.InStatement) (t.Whole (t.Alone k.ExprMacro m))

-- the alternative of a macro: the fifth, an expression, where it is read as one, and else the second
abbrev pub chosen_macro : StmtMacro → Tree
chosen_macro x =
    cond (is_call x.mac.now x.semi_token)
    (seconds 4 (expression_tree x.attrs.now (as_expression x.mac.now) x.semi_token))
    (t.Second (t.First (stmt_macro x)))

-- the alternative of a statement: of items a macro with a name is the first, and any other the fourth
abbrev pub chosen_stmt : Stmt → Tree
chosen_stmt (stmts.Item x) = cond (is_macro_item x.now) (t.First x.now) (seconds 3 (t.First x.now))
chosen_stmt (stmts.Macro x) = chosen_macro x
chosen_stmt (stmts.Local x) = seconds 2 (t.First (stmt_local x))
chosen_stmt (stmts.Expr x) = seconds 4 (stmt_expr x)

-- What a statement is once it is a tree: the same; but an expression in which a macro is called is that macro, as it
-- is when it is read.
abbrev pub IsToldAs : Stmt → Stmt → Type 0
IsToldAs (stmts.Expr x) (stmts.Macro y) =
    (y.attrs.now ≡ x.attrs.now) × (called_macro x.expr.now x.semi_token ≡ Some y.mac.now)
    × (y.semi_token ≡ x.semi_token)
IsToldAs (stmts.Expr x) y = (called_macro x.expr.now x.semi_token ≡ None) × (y ≡ stmts.Expr x)
IsToldAs x y = y ≡ x
