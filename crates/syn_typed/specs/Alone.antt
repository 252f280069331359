-- Forms that a kind of its own reads by themselves, by the tree of that kind.
use Rattle.syn_expr.specs.Statements.{IsStmt}
use Rattle.syn_expr.specs.declared.stmt.Stmt.{Stmt}
use Rattle.syn_grammar.specs.Kind as k
use Rattle.syn_grammar.specs.Tree as t
use Rattle.syn_grammar.specs.Tree.{Tree}

-- a statement, which has the ; that it needs
abbrev pub IsStmtAlone : Tree → Stmt → Type 0
IsStmtAlone (t.Node k.OneStatement (t.First y)) x = IsStmt y x
IsStmtAlone _ x = ⊥
