-- Alternatives by name. An entry tells its alternatives apart by how often a choice goes on to the second; here those
-- that the rules of what is kept, and of normal form, make have the name of what they are.
use Rattle.syn_grammar.specs.Kind.{AStatement, OnePattern}
use Rattle.syn_grammar.specs.Name.{the_attributes, the_expression, the_pattern, the_type}
use Rattle.syn_grammar.specs.Tree.{Tree, Nil, Pair, First, Second, Called, Node}

-- In a body there is a lone ; or a statement.
abbrev pub a_statement : Tree → Tree
a_statement x = Second (Node AStatement x)

-- A statement is an item that is a macro, or attributes, a macro and perhaps ; , or a let, or another item, or an
-- expression behind its attributes and before what may be a ; .
abbrev pub a_macro_statement : Tree → Tree → Tree → Tree
a_macro_statement attributes mac semicolon = Second (First (Pair attributes (Pair mac semicolon)))

abbrev pub an_expression : Tree → Tree → Tree → Tree
an_expression attributes e semicolon =
    Second (Second
    (Second (Second (Pair (Called the_attributes attributes) (Pair (Called the_expression e) semicolon)))))

-- A parameter, behind its attributes, is a receiver, or ... , or a type alone, or a pattern, a : and then a type (or
-- ... , which is the first of these two).
abbrev pub a_pattern_and_type : Tree → Tree → Tree → Tree
a_pattern_and_type p colon t =
    Second (Second (Second (Pair (Called the_pattern p) (Pair colon (Second (Called the_type t))))))

-- One pattern is a name, or _ , or another.
abbrev pub a_wild_pattern : Tree → Tree
a_wild_pattern x = Node OnePattern (Second (First x))

-- A path begins with :: or not, and then has segments; a segment that is a name has arguments and more segments, or ::
-- and more segments, or neither, and then perhaps arguments in parentheses.
abbrev pub without_colons : Tree → Tree
without_colons x = Pair (Second Nil) x

abbrev pub a_lone_name : Tree → Tree
a_lone_name w = Second (Pair w (Second (Second (Second Nil))))

-- An argument is a lifetime, or a literal, or a block, or another.
abbrev pub a_literal_argument : Tree → Tree
a_literal_argument x = Second (First x)

abbrev pub a_block_argument : Tree → Tree
a_block_argument x = Second (Second (First x))
