use Rattle.std.proofs.Common.{◌≡◌, ◌++◌, drop, map}
use Rattle.syn_expr.specs.Statements.{block_stmt}
use Rattle.syn_wrapped.proofs.statements.each.Given as goal

-- what is left is to stand behind what is put
abbrev pub invariant-loop-stmt : goal.invariant-loop-stmt
invariant-loop-stmt l = l.trees.items ++ map block_stmt (drop l.stmt-index l.stmts) ≡ map block_stmt l.stmts
