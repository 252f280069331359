-- How expressions bind, by their edges.
use Rattle.std.specs.Prelude.{◌≡◌, Bool, true, false, not, ◌&&◌, ◌||◌, nat_lt, List, Option, None, Some}
use Rattle.std.specs.List.{list_all}
use Rattle.proc_macro2.specs.Token.{Token}
use Rattle.syn_grammar.specs.Kind.{Kind, Position, ExprAssign}
use Rattle.syn_grammar.specs.Tree.{Tree, Front, Back, Infix}
use Rattle.syn_grammar.specs.Forms.{level, back, inside, ends_there, is_dotted}
use Rattle.laws_binding.specs.Spelled.{Spelled}
use Rattle.laws_edges.specs.Classes.{fits_before, is_chained}
use Rattle.laws_edges.specs.Edges.{left_edge, right_edge, Ending, ending}

-- PRECEDENCE. The operand behind a form takes in the forms that bind more tightly; that of an assignment takes in
-- other assignments too, which so go from the right. No other form takes in forms of its own level.
abbrev pub takes_in : Kind → Kind → Bool
takes_in ExprAssign ExprAssign = true
takes_in j k = nat_lt (level j) (level k)

-- An operand may go on with a form before which it fits. But a form that ends its statement or its arm goes on with
-- . and ? alone.
abbrev pub may_go_on : Position → Tree → Kind → Bool
may_go_on p l k = fits_before k l && (not (ends_there p l) || is_dotted k)

-- RIGHT EDGES. On the right edge of what stands before a form, each operand has ended: its own form doesn't take the
-- new one in, or it can't go on with it. So a + b is the left operand of a sum, and none of a product; and return .. is
-- one of a comparison, as the range can't go on.
abbrev pub has_ended : Kind → Ending → Bool
has_ended k (ending j q x) = not (takes_in j k && may_go_on q x k)

-- So what stands before a form is a left operand of it, if it may go on with the form, isn't a comparison before one,
-- and each operand on its right edge has ended.
abbrev pub IsLeftOperand : Position → Tree → Kind → Type 0
IsLeftOperand p l k =
    (may_go_on p l k ≡ true)
    × (is_chained l k ≡ false)
    × (list_all (has_ended k) (right_edge p l) ≡ true)

-- LEFT EDGES. On the left edge of what stands behind a form, each form is one that it takes in. So a * b and a.b are
-- right operands of a sum, and a - b is none.
abbrev pub IsRightOperand : Kind → Tree → Type 0
IsRightOperand k x = list_all (takes_in k) (left_edge x) ≡ true

-- All operands of an expression, at any depth, are such. What is in delimiters is no operand of it.
abbrev pub Binds : Position → Tree → Type 0
Binds p (Front k y x) = IsRightOperand k x × Binds (inside p k) x
Binds p (Back l k y) = IsLeftOperand p l k × Binds p l
Binds p (Infix l k y r) = IsLeftOperand p l k × Binds p l × IsRightOperand k r × Binds (inside p k) r
Binds p x = Unit {0}

-- WHAT FOLLOWS. Before the tokens behind an expression, each operand on its right edge has ended: they begin no form
-- that stands behind an operand, or it has ended before that form.
abbrev pub is_over : Option Kind → Ending → Bool
is_over None e = true
is_over (Some k) e = has_ended k e

abbrev pub is_over_at : List Token → Ending → Bool
is_over_at ts (ending j q x) = is_over (back q ts) (ending j q x)

abbrev pub EndsBefore : Position → Tree → List Token → Type 0
EndsBefore p x ts = list_all (is_over_at ts) (right_edge p x) ≡ true

-- A whole expression is as long as it can be: it can't go on either with what follows.
abbrev pub goes_no_further : Position → Tree → Option Kind → Bool
goes_no_further p x None = true
goes_no_further p x (Some k) = not (may_go_on p x k)

-- An expression in its position, before what follows: its own parts are read where they stand, its operands bind by
-- their edges, and it ends there.
abbrev pub IsExpression : Position → Tree → List Token → Type 0
IsExpression p x rest =
    Spelled p x rest × Binds p x × EndsBefore p x rest × (goes_no_further p x (back p rest) ≡ true)
