use Rattle.std.proofs.Common.{◌≡◌, ◌∙◌, ap}
use Rattle.std.proofs.lemmas.Result.{IfOk-weaker}
use Rattle.syn_expr.specs.Statements.{IsStmt}
use Rattle.syn_expr.specs.declared.stmt.Stmt.{Stmt}
use Rattle.syn_grammar.specs.Kind as k
use Rattle.syn_grammar.specs.Tree.{Node}
use Rattle.syn_wrapped.specs.Statements.{IsToldAs}
use Rattle.syn_wrapped.proofs.StatementForms.{told}
use Rattle.syn_wrapped.proofs.statements.statement.Goals as goal

pub returns-clause-says : goal.returns-clause-says
returns-clause-says c =
    IfOk-weaker c.node.result (λ x. x ≡ Node k.AStatement c.in_ok-inside.inside) (λ x. (s : Stmt) → IsToldAs
    c.args.stmt.now s → IsStmt x s)
    (λ x e s h. told x c.args.stmt.now s (e ∙ ap (Node k.AStatement) c.in_ok-inside.ensures) h) c.node.ensures
