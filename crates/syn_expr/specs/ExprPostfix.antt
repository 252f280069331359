-- The trees that expressions with an operand before them are.
use Rattle.syn_part.specs.Leaves.{list_tree, mark_tree, node_tree, optional_tree, turns_tree, word_tree}
use Rattle.syn_expr.specs.ExprParts.{field_member_tree}
use Rattle.syn_expr.specs.declared.expr.postfix.ExprCall.{ExprCall}
use Rattle.syn_expr.specs.declared.expr.postfix.ExprMethodCall.{ExprMethodCall}
use Rattle.syn_expr.specs.declared.expr.postfix.ExprField.{ExprField}
use Rattle.syn_expr.specs.declared.expr.postfix.ExprAwait.{ExprAwait}
use Rattle.syn_expr.specs.declared.expr.postfix.ExprIndex.{ExprIndex}
use Rattle.syn_expr.specs.declared.expr.postfix.ExprTry.{ExprTry}
use Rattle.syn_expr.specs.declared.expr.postfix.ExprStruct.{ExprStruct}
use Rattle.syn_expr.specs.declared.expr.postfix.ExprCast.{ExprCast}
use Rattle.syn_part.specs.declared.leaf.Mark.{Mark}
use Rattle.syn_part.specs.declared.list.Turns.{Turns}
use Rattle.syn_grammar.specs.Kind as k
use Rattle.syn_grammar.specs.Name as n
use Rattle.syn_grammar.specs.Tree as t
use Rattle.syn_grammar.specs.Tree.{Tree}

-- a dot, and the numbers behind it that end in one, as a part: of a.b none, of a.0. b the number 0.
abbrev pub dot_tree : Mark → Turns → Tree
dot_tree m r = t.Pair (mark_tree m) (t.Called n.the_indices (turns_tree r))

-- a cast: a as T; what stands behind the type is no postfix form
abbrev pub expr_cast : ExprCast → Tree
expr_cast x = t.Back x.expr.now k.ExprCast (t.Pair (word_tree x.as_token) (t.Pair (t.Called n.the_type x.ty.now)
    (t.Second t.Nil)))

-- a call: a(b, c)
abbrev pub expr_call : ExprCall → Tree
expr_call x = t.Back x.func.now k.ExprCall (t.Group x.paren_token.delimiter (list_tree x.args))

-- a method's call: a.b::<T>(c), or without generic arguments
abbrev pub expr_method_call : ExprMethodCall → Tree
expr_method_call x = t.Back x.receiver.now k.ExprMethodCall (t.Pair (dot_tree x.dot_token x.indices) (t.Pair
    (t.Called n.the_name (word_tree x.method)) (t.Pair (optional_tree node_tree x.turbofish) (t.Group
    x.paren_token.delimiter (list_tree x.args)))))

-- a field, by its name or its index, or by several indices at once: a.b, a.0, a.0.1
abbrev pub expr_field : ExprField → Tree
expr_field x = t.Back x.base.now k.ExprField (t.Pair (dot_tree x.dot_token x.indices) (field_member_tree x.member))

-- what is waited for: a.await
abbrev pub expr_await : ExprAwait → Tree
expr_await x = t.Back x.base.now k.ExprAwait (t.Pair (dot_tree x.dot_token x.indices) (word_tree x.await_token))

-- an element: a[b]
abbrev pub expr_index : ExprIndex → Tree
expr_index x = t.Back x.expr.now k.ExprIndex (t.Group x.bracket_token.delimiter x.index.now)

-- a value, or its fault passed on: a?
abbrev pub expr_try : ExprTry → Tree
expr_try x = t.Back x.expr.now k.ExprTry (mark_tree x.question_token)

-- a struct, whose path is the operand before its fields: A { b: c, ..d }
abbrev pub expr_struct : ExprStruct → Tree
expr_struct x = t.Back x.path.now k.ExprStruct x.fields.now
