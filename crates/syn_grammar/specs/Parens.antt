-- Which operands of an expression are put in parentheses.
use Rattle.std.specs.Prelude.{Bool, true, false, not, ◌&&◌, ◌||◌, cond, nat_eq, List, [], ◌∷◌}
use Rattle.proc_macro2.specs.Token.{Token, Ident}
use Rattle.proc_macro2.specs.declared.delimiter.Delimiter.TheVariants.{Parenthesis}
use Rattle.syn_grammar.specs.Kind.{Kind, Position, Plain, InCondition, InStatement, Expression, ExprParen, ExprPath}
use Rattle.syn_grammar.specs.Kind.{ExprStruct, ExprCall, ExprField, ExprCast, ExprAttributed, ExprLet, ExprBreak}
use Rattle.syn_grammar.specs.Kind.{ExprReturn, ExprYield, ExprRange}
use Rattle.syn_grammar.specs.Name.{the_name, the_label}
use Rattle.syn_grammar.specs.Words.{is_name, is_path_keyword}
use Rattle.syn_grammar.specs.Tree.{Tree, Final, Group, Node, Whole, Alone, Front, Back, Infix, flat}
use Rattle.syn_grammar.specs.Part.{has}
use Rattle.syn_grammar.specs.Look.{sees, ◌then◌, no, a_lifetime}
use Rattle.syn_grammar.specs.Say.{marks, brace}
use Rattle.syn_grammar.specs.Forms.{has_right, level, is_range, may_be_left, ends_there, is_dotted, chains, takes}
use Rattle.syn_grammar.specs.Forms.{within, struct_stands}

-- in parentheses, unless it stays as it is
abbrev pub in_parens : Tree → Tree
in_parens x = Alone ExprParen (Group Parenthesis (Final (Node (Expression Plain) (Whole x))))

abbrev pub parens_unless : Bool → Tree → Tree
parens_unless stays x = cond stays x (in_parens x)

-- Forms that may lack the operand behind them: jumps and half-open ranges. One that lacks it stays only where what
-- follows would not be that operand; and one that has it, only where it would be.
unfoldable pub may_lack : Kind → Bool
may_lack ExprBreak = true
may_lack ExprReturn = true
may_lack ExprYield = true
may_lack ExprRange = true
may_lack k = false

-- A path takes braces that follow it, but in a condition: it would be a struct.
abbrev pub takes_braces : Position → Kind → List Token → Bool
takes_braces p ExprPath ts = sees (struct_stands p) ts
takes_braces p k ts = false

abbrev pub takes_what_follows : Position → Kind → List Token → Bool
takes_what_follows p k ts = (may_lack k && has_right p k ts) || takes_braces p k ts

-- A lifetime behind break is its label, and no : stands behind that.
abbrev pub is_label : Kind → Tree → List Token → Bool
is_label ExprBreak y ts = cond (has the_label y) (sees (marks ":") ts) (sees a_lifetime ts)
is_label k y ts = false

-- An operand behind a form stays where the form's level takes the forms on its left edge, where it is taken for the
-- operand, and where it is no range behind attributes.
abbrev pub is_attributed_range : Kind → Tree → Bool
is_attributed_range ExprAttributed x = is_range x
is_attributed_range k x = false

abbrev pub stays_right : Position → Kind → Tree → Tree → Bool
stays_right p k y x =
    within (level k) x
    && ((not (may_lack k) || (has_right p k (flat x) && not (is_label k y (flat x))))
    && not (is_attributed_range k x))

-- A type that ends in a name takes a < behind it for arguments.
abbrev pub ends_in_name : List Token → Bool
ends_in_name [] = false
ends_in_name (Ident cs ∷ []) = is_name cs && not (is_path_keyword cs)
ends_in_name (t ∷ ts) = ends_in_name ts

-- A cast is followed by no postfix form, and its type takes the arguments that it can; a field with a name is
-- followed by no call.
abbrev pub ends_before : Kind → List Token → Kind → Tree → Bool
ends_before k ts ExprCast y = not (nat_eq (level k) 16
    || (ends_in_name (flat y) && sees (no (marks "<=") then marks "<") ts))
ends_before ExprCall ts ExprField y = not (has the_name y)
ends_before k ts j y = true

-- Before a form of a kind, which begins with these tokens, an operand is ended: no operand on its right edge goes
-- on with the form.
abbrev pub is_ended : Kind → List Token → Tree → Bool
is_ended k ts (Front j y x) = not (takes (level j) (level k) && may_be_left k x) && is_ended k ts x
is_ended k ts (Infix l j y r) = not (takes (level j) (level k) && may_be_left k r) && is_ended k ts r
is_ended k ts (Back l j y) = ends_before k ts j y
is_ended k ts x = true

abbrev pub is_struct : Kind → Bool
is_struct ExprStruct = true
is_struct k = false

-- An operand before a form stays where it may be left of it, isn't a comparison before a comparison, doesn't end
-- the statement or the arm that it begins, and is ended there. Before a struct's braces stands a path.
abbrev pub stays_left : Position → Kind → Tree → Tree → Bool
stays_left p k y l =
    is_struct k || ((may_be_left k l && (not (ends_there p l) || is_dotted k))
    && (not (chains l k) && is_ended k (flat y) l))

-- A form stays where its position has it: a let begins no statement, and a struct stands in no condition.
abbrev pub begins_in : Position → Kind → Bool
begins_in InStatement ExprLet = false
begins_in p k = true

abbrev pub stands_in : Position → Kind → Bool
stands_in InCondition ExprStruct = false
stands_in p k = true

-- What follows an operand is the own part of the form behind it; braces are a struct's, and follow a path, which
-- takes nothing.
abbrev pub follow : List Token → List Token
follow ts = cond (sees brace ts) [] ts

-- The forms, from the parts and operands that they have in normal form, before what follows.
abbrev pub alone : Position → List Token → Kind → Tree → Tree
alone p ts k y = parens_unless (not (takes_what_follows p k ts)) (Alone k y)

abbrev pub with_right : Position → Kind → Tree → Tree → Tree
with_right p k y x = parens_unless (stays_right p k y x) x

abbrev pub with_left : Position → Kind → Tree → Tree → Tree
with_left p k y l = parens_unless (stays_left p k y l) l

abbrev pub front_form : Position → Kind → Tree → Tree → Tree
front_form p k y x = parens_unless (begins_in p k) (Front k y (with_right p k y x))

abbrev pub back_form : Position → List Token → Tree → Kind → Tree → Tree
back_form p ts l k y = parens_unless (stands_in p k && not (takes_what_follows p k ts)) (Back (with_left p k y l) k y)

abbrev pub infix_form : Position → Tree → Kind → Tree → Tree → Tree
infix_form p l k y r = Infix (with_left p k y l) k y (with_right p k y r)
