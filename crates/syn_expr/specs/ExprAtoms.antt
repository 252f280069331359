-- The trees that these expressions are.
use Rattle.syn_part.specs.Leaves.{lifetime_tree, optional_tree, word_tree}
use Rattle.syn_part.specs.Sub.{lit_tree}
use Rattle.syn_expr.specs.declared.expr.atoms.ExprLit.{ExprLit}
use Rattle.syn_expr.specs.declared.expr.atoms.ExprGroup.{ExprGroup}
use Rattle.syn_expr.specs.declared.expr.atoms.ExprInfer.{ExprInfer}
use Rattle.syn_expr.specs.declared.expr.atoms.ExprConst.{ExprConst}
use Rattle.syn_expr.specs.declared.expr.atoms.ExprTryBlock.{ExprTryBlock}
use Rattle.syn_expr.specs.declared.expr.atoms.ExprContinue.{ExprContinue}
use Rattle.syn_grammar.specs.Kind as k
use Rattle.syn_grammar.specs.Tree as t
use Rattle.syn_grammar.specs.Tree.{Tree}

-- a literal, or a truth value: 1, "a", true
abbrev pub expr_lit : ExprLit → Tree
expr_lit x = t.Alone k.ExprLit (lit_tree x.lit)

-- an expression in a group without delimiters
abbrev pub expr_group : ExprGroup → Tree
expr_group x = t.Alone k.ExprGroup (t.Group x.group_token.delimiter x.expr.now)

-- a value that is to be inferred: _
abbrev pub expr_infer : ExprInfer → Tree
expr_infer x = t.Alone k.ExprInfer (word_tree x.underscore_token)

-- a const block: const { .. }
abbrev pub expr_const : ExprConst → Tree
expr_const x = t.Alone k.ExprConst (t.Pair (word_tree x.const_token) x.block.now)

-- a try block: try { .. }
abbrev pub expr_try_block : ExprTryBlock → Tree
expr_try_block x = t.Alone k.ExprTryBlock (t.Pair (word_tree x.try_token) x.block.now)

-- a loop's next turn: continue 'a, or without a label
abbrev pub expr_continue : ExprContinue → Tree
expr_continue x = t.Alone k.ExprContinue (t.Pair (word_tree x.continue_token) (optional_tree lifetime_tree x.label))
