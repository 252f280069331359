-- What stands in a tree, for the shapes that `reader_tree` has no word for.
use Rattle.std.specs.Prelude.{Option, Some, None}
use Rattle.syn_grammar.specs.Kind.{Kind}
use Rattle.syn_grammar.specs.Name.{Part}
use Rattle.syn_grammar.specs.Tree.{Tree, Called, Dropped, Verbatim, Front, Back, Infix}
use Rattle.reader_tree.specs.Shapes.{single}

-- of a form with an operand behind it alone its kind, its own part, and that operand
abbrev pub single_ahead : Tree → Option (Kind × Tree × Tree)
single_ahead (Front k y x) = Some (k, y, x)
single_ahead _ = None

abbrev pub ahead_of : Tree → Option (Kind × Tree × Tree)
ahead_of x = single_ahead (single x)

-- of a form with an operand before it alone that operand, its kind, and its own part
abbrev pub single_back : Tree → Option (Tree × Kind × Tree)
single_back (Back l k y) = Some (l, k, y)
single_back _ = None

abbrev pub back_of : Tree → Option (Tree × Kind × Tree)
back_of x = single_back (single x)

-- of a form with an operand on either side the left one, its kind, its own part, and the right one
abbrev pub single_infix : Tree → Option (Tree × Kind × Tree × Tree)
single_infix (Infix l k y r) = Some (l, k, y, r)
single_infix _ = None

abbrev pub infix_of : Tree → Option (Tree × Kind × Tree × Tree)
infix_of x = single_infix (single x)

-- of a part its name and what it is
abbrev pub single_called : Tree → Option (Part × Tree)
single_called (Called n x) = Some (n, x)
single_called _ = None

abbrev pub called_of : Tree → Option (Part × Tree)
called_of x = single_called (single x)

-- what was read, and is no part of the program
abbrev pub single_dropped : Tree → Option Tree
single_dropped (Dropped x) = Some x
single_dropped _ = None

abbrev pub dropped_of : Tree → Option Tree
dropped_of x = single_dropped (single x)

-- what was read so, and is kept as tokens
abbrev pub single_verbatim : Tree → Option Tree
single_verbatim (Verbatim x) = Some x
single_verbatim _ = None

abbrev pub verbatim_of : Tree → Option Tree
verbatim_of x = single_verbatim (single x)
