-- Whether an expression or a statement that was read begins with a parenthesis that was added.
use Rattle.std.specs.Prelude.{Bool, false, not, ◌&&◌, ◌||◌, nat_eq}
use Rattle.syn_grammar.specs.Kind.{Expression, ExprCast, AStatement, OuterAttributes}
use Rattle.syn_grammar.specs.Name.{the_attributes, the_expression}
use Rattle.syn_grammar.specs.Tree.{Tree, Pair, Second, Again, Called, Node, Whole, Back, Infix}
use Rattle.syn_grammar.specs.Forms.{level}
use Rattle.laws_ranges.specs.Shelled.{goes_in}

-- Some left operand on its left edge is put in parentheses.
abbrev pub opens : Tree → Bool
opens (Back l k y) = goes_in k l || opens l
opens (Infix l k y r) = goes_in k l || opens l
opens x = false

-- The same with attributes that are given to the leftmost operand, inside its parentheses; a range keeps them in front.
abbrev pub opens_given : Tree → Bool
opens_given (Back l ExprCast y) = goes_in ExprCast l || opens_given l
opens_given (Infix l k y r) = not (nat_eq (level k) 3) && (goes_in k l || opens_given l)
opens_given x = false

abbrev pub opens_behind : Tree → Tree → Bool
opens_behind (Node OuterAttributes (Again t b)) x = opens_given x
opens_behind a x = opens x

-- A statement: an expression, behind attributes or none.
abbrev pub opens_statement : Tree → Bool
opens_statement (Second (Second (Second (Second (Pair (Called the_attributes a)
    (Pair (Called the_expression (Node (Expression q) (Whole x))) s)))))) = opens_behind a x
opens_statement x = false

-- The first of some statements, among which lone semicolons may stand.
abbrev pub opens_turns : Tree → Bool
opens_turns (Again (Second (Node AStatement x)) y) = opens_statement x
opens_turns x = false
