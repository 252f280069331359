-- Which forms of a kind are meant.
use Rattle.std.specs.Prelude.{◌≡◌, Bool, true, false, Some}
use Rattle.syn_expr.specs.ExprWhole.{IsOf, is_lone, which}
use Rattle.syn_expr.specs.declared.expr.whole.ExprForm.{ExprForm}
use Rattle.syn_grammar.specs.Forms.{form_of}
use Rattle.syn_grammar.specs.Kind as k
use Rattle.syn_grammar.specs.Tree as t
use Rattle.syn_grammar.specs.Tree.{Tree}

-- an expression of that form
abbrev pub IsExprOf : ExprForm → Tree → Type 0
IsExprOf f x = which (form_of x) ≡ Some f

-- that form itself: its own part has the shape of its kind's entry
abbrev pub IsFormOf : ExprForm → Tree → Type 0
IsFormOf f x = (which x ≡ Some f) × IsOf f x

-- of a type in brackets: ; and a length stand behind the type of its elements
abbrev pub has_length : Tree → Bool
has_length (t.Node k.BracketType (t.Group d (t.Pair x (t.First y)))) = true
has_length _ = false

-- of types in parentheses: one stands there, and no comma behind it
abbrev pub is_lone_type : Tree → Bool
is_lone_type (t.Node k.TupleType x) = is_lone x
is_lone_type _ = false

-- of what stands in an attribute: tokens in a group stand behind its path
abbrev pub has_tokens : Tree → Bool
has_tokens (t.Node k.Meta (t.Pair x (t.First y))) = true
has_tokens _ = false

-- of what stands in an attribute: = and a value stand behind its path
abbrev pub has_value : Tree → Bool
has_value (t.Node k.Meta (t.Pair x (t.Second (t.First y)))) = true
has_value _ = false
