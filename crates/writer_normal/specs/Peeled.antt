-- What is taken out of a tree, and what is made of parts of it, where a syntax tree holds it otherwise than it was
-- read.
use Rattle.std.specs.Prelude.{Bool, true, false, Option, Some, None}
use Rattle.syn_grammar.specs.Alternatives.{a_block_argument, a_literal_argument, a_macro_statement, an_expression}
use Rattle.syn_grammar.specs.Kind.{AtType, AnyPath, Body, ExprLit, ExprPath, ExprMacro, OuterAttributes}
use Rattle.syn_grammar.specs.Kept.{as_path, atom, block_atom, given, left_in_front}
use Rattle.syn_grammar.specs.Tree.{Tree, First, Second, Again, Node, Alone}
use Rattle.writer_rules.specs.Operands.{first_behind}
use Rattle.writer_rules.specs.Seen.{unnamed_of}

-- of a choice the second
abbrev pub second_of : Tree → Option Tree
second_of (Second x) = Some x
second_of _ = None

-- behind what stands in front of a parameter, the type of one that is a type alone
abbrev pub unnamed_in : Option Tree → Option Tree
unnamed_in None = None
unnamed_in (Some x) = unnamed_of x

abbrev pub lone_type : Tree → Option Tree
lone_type y = unnamed_in (first_behind y 2)

-- of turns the first, and the others
abbrev pub again_of : Tree → Option (Tree × Tree)
again_of (Again x y) = Some (x, y)
again_of _ = None

-- of a macro its own part
abbrev pub macro_in : Tree → Option Tree
macro_in (Alone ExprMacro y) = Some y
macro_in _ = None

-- of attributes the first, and the others
abbrev pub attributes_of : Tree → Option (Tree × Tree)
attributes_of (Node OuterAttributes (Again a b)) = Some (a, b)
attributes_of _ = None

-- an argument that is a literal, with a sign or without, and one that is a block
abbrev pub argued_literal : Tree → Tree
argued_literal (First x) = a_literal_argument (atom ExprLit (First x))
argued_literal (Second x) = a_literal_argument (atom ExprLit (Second x))
argued_literal x = a_literal_argument x

abbrev pub argued_block : Tree → Tree
argued_block (Node Body x) = a_block_argument (block_atom (Node Body x))
argued_block x = a_block_argument x

-- the default of a constant parameter that is no literal
abbrev pub default_behind : Tree → Tree
default_behind (First x) = block_atom x
default_behind (Second x) = atom ExprPath (Node (AnyPath AtType) (Second (as_path x)))
default_behind x = Second x

-- whether it is a body
abbrev pub is_body : Tree → Bool
is_body (Node Body x) = true
is_body _ = false

-- a statement that is an expression, and one that is a macro
abbrev pub expressed : Tree → Tree → Tree → Tree
expressed a e s = an_expression (left_in_front a) (given a e) s

abbrev pub stated_macro : Tree → Tree → Tree → Tree
stated_macro a m s = a_macro_statement a m s
