-- Spelled expressions: the tokens of one, with each of its operands in parentheses, are read as it with these
-- parentheses.
use Rattle.std.specs.Prelude.{◌&&◌, []}
use Rattle.syn_grammar.specs.Kind.{Plain, Expression}
use Rattle.syn_grammar.specs.Tree.{Tree, Node, Whole, Alone, Front, Back, Infix, flat}
use Rattle.syn_grammar.specs.Read.{IsRead}
use Rattle.syn_grammar.specs.Normal.{normal}
use Rattle.syn_grammar.specs.Forms.{is_path_form}
use Rattle.syn_grammar.specs.Parens.{in_parens, parens_unless, is_struct}
use Rattle.laws_reread_expressions.specs.Behind.{is_attributed}
use Rattle.laws_reread_expressions.specs.Formed.{is_attributed_form}

-- Each operand stands in parentheses, and each own part is in normal form. But the path before the braces of a struct
-- stands as it is, and so do attributes behind attributes: of both one list is read, so such an expression is not
-- spelled.
abbrev pub parenthesized : Tree → Tree
parenthesized (Alone k y) = Alone k (normal y)
parenthesized (Front k y x) =
    Front k (normal y) (parens_unless (is_attributed k && is_attributed_form x) (parenthesized x))
parenthesized (Back l k y) = Back (parens_unless (is_struct k && is_path_form l) (parenthesized l)) k (normal y)
parenthesized (Infix l k y r) = Infix (in_parens (parenthesized l)) k (normal y) (in_parens (parenthesized r))
parenthesized x = x

-- They are read as an expression in plain position, and nothing is left.
abbrev pub IsSpelled : Tree → Type 0
IsSpelled x =
    IsRead (Expression Plain) (flat (parenthesized x)) (Node (Expression Plain) (Whole (parenthesized x))) []
