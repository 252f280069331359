-- The macro of an expression that is a macro and nothing else, and of a statement in which it is called.
use Rattle.reader_tree.specs.Forms.{seconds}
use Rattle.reader_tree.specs.Shapes.{alone_of}
use Rattle.std.proofs.Common.{sym}
use Rattle.std.specs.Prelude.{◌≡◌, None, Option, Some, refl}
use Rattle.syn_expr.specs.Statements.{IsCall, called_macro, expression_tree, macro_form}
use Rattle.syn_expr.specs.declared.stmt.StmtMacro.{StmtMacro}
use Rattle.syn_grammar.specs.Kind as k
use Rattle.syn_grammar.specs.Kind.{Kind}
use Rattle.syn_grammar.specs.Tree as t
use Rattle.syn_grammar.specs.Tree.{Tree}

-- by the kind and the own part of a form without operands
abbrev pub by_own : Option (Kind × Tree) → Option Tree
by_own (Some (k.ExprMacro, y)) = Some y
by_own _ = None

pub macro_forms : (x : Tree) → macro_form x ≡ by_own (alone_of x)
macro_forms (t.Alone k.ExprMacro m) = refl
macro_forms _ = refl

-- an expression in which the macro is called
pub calls : (x e : Tree) (y : StmtMacro) → x ≡ seconds 4 (expression_tree y.attrs.now e y.semi_token)
    → Some y.mac.now ≡ called_macro e y.semi_token → IsCall x y
calls x e y d h = (e, d, sym h)
