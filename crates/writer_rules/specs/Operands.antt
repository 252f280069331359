-- What stands in forms with an operand before them, and in a statement that is an expression.
use Rattle.std.specs.Prelude.{ℕ, zero, suc, Bool, true, false, cond, nat_eq, Option, Some, None}
use Rattle.syn_grammar.specs.Kind.{Kind, Expression, AStatement, ExprAttributed, ExprCast}
use Rattle.syn_grammar.specs.Name.{the_attributes, the_expression}
use Rattle.syn_grammar.specs.Tree.{Tree, Pair, First, Second, Called, Node, Whole, Back, Infix}
use Rattle.syn_grammar.specs.Forms.{level}
use Rattle.reader_tree.specs.Shapes.{single}

-- attributes in front of an expression
abbrev pub is_attributed : Kind → Bool
is_attributed ExprAttributed = true
is_attributed _ = false

-- of an infix form its kind, its left operand, its own part and its right operand
abbrev pub single_infix : Tree → Option (Kind × Tree × Tree × Tree)
single_infix (Infix l k y r) = Some (k, l, y, r)
single_infix _ = None

abbrev pub infix_of : Tree → Option (Kind × Tree × Tree × Tree)
infix_of x = single_infix (single x)

-- of a form with an operand before it alone its kind, that operand and its own part
abbrev pub single_back : Tree → Option (Kind × Tree × Tree)
single_back (Back l k y) = Some (k, l, y)
single_back _ = None

abbrev pub back_of : Tree → Option (Kind × Tree × Tree)
back_of x = single_back (single x)

-- of a form its kind and its left operand, where attributes in front of it are given to that
abbrev pub giving_of : Tree → Option (Kind × Tree)
giving_of (Infix l k y r) = cond (nat_eq (level k) 3) None (Some (k, l))
giving_of (Back l ExprCast y) = Some (ExprCast, l)
giving_of _ = None

-- behind so many seconds: both of two trees, and of a choice the first
abbrev pub pair_behind : Tree → ℕ → Option (Tree × Tree)
pair_behind (Second x) (suc n) = pair_behind x n
pair_behind (Pair x y) zero = Some (x, y)
pair_behind _ _ = None

abbrev pub first_behind : Tree → ℕ → Option Tree
first_behind (Second x) (suc n) = first_behind x n
first_behind (First x) zero = Some x
first_behind _ _ = None

-- of a part by its name what stands in it: attributes, and an expression
abbrev pub before_of : Tree → Option Tree
before_of (Called the_attributes x) = Some x
before_of _ = None

abbrev pub expression_of : Tree → Option Tree
expression_of (Called the_expression x) = Some x
expression_of _ = None

-- the form of an expression
abbrev pub form_in : Tree → Option Tree
form_in (Node (Expression p) (Whole x)) = Some x
form_in _ = None

-- of a statement that is an expression: what stands before it, its form, and what stands behind it
abbrev pub stated_of : Tree → Option (Tree × Tree × Tree)
stated_of (Second (Second (Second (Second (Pair (Called the_attributes a)
    (Pair (Called the_expression (Node (Expression p) (Whole x))) s)))))) = Some (a, x, s)
stated_of _ = None

-- a statement's inside
abbrev pub statement_of : Tree → Option Tree
statement_of (Node AStatement x) = Some x
statement_of _ = None
