-- The trees that expressions with an operand behind them are.
use Rattle.syn_part.specs.Leaves.{list_tree, mark_tree, node_tree, optional_tree, word_tree}
use Rattle.syn_expr.specs.ExprOps.{un_op_tree}
use Rattle.syn_expr.specs.declared.expr.prefix.ExprAttributed.{ExprAttributed}
use Rattle.syn_expr.specs.declared.expr.prefix.ExprRawAddr.{ExprRawAddr}
use Rattle.syn_expr.specs.declared.expr.prefix.ExprReference.{ExprReference}
use Rattle.syn_expr.specs.declared.expr.prefix.ExprLet.{ExprLet}
use Rattle.syn_expr.specs.declared.expr.prefix.ExprUnary.{ExprUnary}
use Rattle.syn_expr.specs.declared.expr.prefix.ClosureHead.{ClosureHead}
use Rattle.syn_expr.specs.declared.expr.prefix.ExprClosure.{ExprClosure}
use Rattle.syn_grammar.specs.Kind as k
use Rattle.syn_grammar.specs.Tree as t
use Rattle.syn_grammar.specs.Tree.{Tree}
use denote.Bor.{Bor}
use Rattle.std.specs.Prelude.{Option, Some, None}

-- an expression with attributes, the first by itself and the others: #[a] #[b] c
abbrev pub expr_attributed : ExprAttributed → Tree
expr_attributed x = t.Front k.ExprAttributed (t.Pair x.attr.now x.attrs.now) x.expr.now

-- a unary operator before an operand: !a
abbrev pub expr_unary : ExprUnary → Tree
expr_unary x = t.Front k.ExprUnary (un_op_tree x.op) x.expr.now

-- a raw address: &raw const a, &raw mut a
abbrev pub expr_raw_addr : ExprRawAddr → Tree
expr_raw_addr x = t.Front k.ExprRawAddr (t.Pair (mark_tree x.and_token) (t.Pair (word_tree x.raw) (word_tree
    x.mutability))) x.expr.now

-- a reference: &a, &mut a
abbrev pub expr_reference : ExprReference → Tree
expr_reference x = t.Front k.ExprReference (t.Pair (mark_tree x.and_token) (optional_tree word_tree x.mutability))
    x.expr.now

-- a condition by a pattern: let a = b
abbrev pub expr_let : ExprLet → Tree
expr_let x = t.Front k.ExprLet (t.Pair (word_tree x.let_token) (t.Pair x.pat.now (mark_tree x.eq_token))) x.expr.now

-- what stands before a closure's body: for<'a> const static async move, each if it stands there, and | a, b |
abbrev pub closure_head : ClosureHead → Tree
closure_head h = t.Pair (optional_tree node_tree h.lifetimes) (t.Pair (optional_tree word_tree h.constness) (t.Pair
    (optional_tree word_tree h.movability) (t.Pair (optional_tree word_tree h.asyncness) (t.Pair
    (optional_tree word_tree h.capture) (t.Pair (mark_tree h.or1_token) (t.Pair (list_tree h.inputs)
    (mark_tree h.or2_token)))))))

-- a closure that says no type has its body as the operand behind it; one that says a type has none, and the type and
-- the body are parts of it
abbrev pub closure_tree : Tree → Option (Bor Tree) → Tree → Tree
closure_tree h None y = t.Front k.ExprClosure h y
closure_tree h (Some o) y = t.Alone k.ExprTypedClosure (t.Pair h (t.Pair o.now y))

-- a closure: move |a, b| c, |a| -> T { .. }
abbrev pub expr_closure : ExprClosure → Tree
expr_closure x =
    closure_tree (t.Pair (optional_tree node_tree x.lifetimes) (t.Pair (optional_tree word_tree x.constness) (t.Pair
    (optional_tree word_tree x.movability) (t.Pair (optional_tree word_tree x.asyncness) (t.Pair
    (optional_tree word_tree x.capture) (t.Pair (mark_tree x.or1_token) (t.Pair (list_tree x.inputs)
    (mark_tree x.or2_token)))))))) x.output x.body.now
