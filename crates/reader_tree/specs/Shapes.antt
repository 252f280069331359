-- What a tree is, and what stands in it.
use Rattle.std.specs.Prelude.{◌≡◌, ℕ, Bool, true, false, List, Option, Some, None}
use Rattle.syn_grammar.specs.Kind.{Kind}
use Rattle.syn_grammar.specs.Tree.{Tree, AMark, Nil, Pair, First, Second, End, Again, Final, More, Group, Node, Whole}
use Rattle.syn_grammar.specs.Tree.{Alone, Front, Back, Infix}
use Rattle.reader_tree.specs.declared.tree.Element.{Element}
use Rattle.reader_tree.specs.Forms.{elements, ending}

-- a tree that is no mark, no choice, and neither turns nor a list; of those nothing is left
abbrev pub single : Tree → Tree
single (AMark c cs spacing) = Nil
single (First x) = Nil
single (Second x) = Nil
single End = Nil
single (Again x y) = Nil
single (Final x) = Nil
single (More x c spacing y) = Nil
single x = x

-- of a node its kind and its inside
abbrev pub single_node : Tree → Option (Kind × Tree)
single_node (Node k x) = Some (k, x)
single_node _ = None

abbrev pub node_of : Tree → Option (Kind × Tree)
node_of x = single_node (single x)

-- of two trees both
abbrev pub single_pair : Tree → Option (Tree × Tree)
single_pair (Pair x y) = Some (x, y)
single_pair _ = None

abbrev pub pair_of : Tree → Option (Tree × Tree)
pair_of x = single_pair (single x)

-- of a group its inside
abbrev pub single_group : Tree → Option Tree
single_group (Group d x) = Some x
single_group _ = None

abbrev pub group_of : Tree → Option Tree
group_of x = single_group (single x)

-- of an expression its form
abbrev pub single_whole : Tree → Option Tree
single_whole (Whole x) = Some x
single_whole _ = None

abbrev pub whole_of : Tree → Option Tree
whole_of x = single_whole (single x)

-- the kind of an expression's form
abbrev pub single_kind : Tree → Option Kind
single_kind (Alone k y) = Some k
single_kind (Front k y x) = Some k
single_kind (Back l k y) = Some k
single_kind (Infix l k y r) = Some k
single_kind _ = None

abbrev pub own_kind : Tree → Option Kind
own_kind x = single_kind (single x)

-- of a form without operands its kind and its own part
abbrev pub single_alone : Tree → Option (Kind × Tree)
single_alone (Alone k y) = Some (k, y)
single_alone _ = None

abbrev pub alone_of : Tree → Option (Kind × Tree)
alone_of x = single_alone (single x)

-- of a form with an operand behind it alone its kind and that operand
abbrev pub single_front : Tree → Option (Kind × Tree)
single_front (Front k y x) = Some (k, x)
single_front _ = None

abbrev pub front_of : Tree → Option (Kind × Tree)
front_of x = single_front (single x)

-- a choice; of what is none nothing is left
abbrev pub chosen : Tree → Tree
chosen (First x) = First x
chosen (Second x) = Second x
chosen _ = Nil

-- of a choice, where the first was chosen, that
abbrev pub chosen_first : Tree → Option Tree
chosen_first (First x) = Some x
chosen_first _ = None

abbrev pub first_of : Tree → Option Tree
first_of x = chosen_first (chosen x)

-- the second was chosen
abbrev pub chosen_second : Tree → Bool
chosen_second (Second x) = true
chosen_second _ = false

abbrev pub is_second : Tree → Bool
is_second x = chosen_second (chosen x)

-- the second was chosen, and in it the first
abbrev pub chosen_middle : Tree → Bool
chosen_middle (Second (First x)) = true
chosen_middle _ = false

abbrev pub is_middle : Tree → Bool
is_middle x = chosen_middle (chosen x)

-- the second was chosen, and in it the second
abbrev pub chosen_third : Tree → Bool
chosen_third (Second (Second x)) = true
chosen_third _ = false

abbrev pub is_third : Tree → Bool
is_third x = chosen_third (chosen x)

-- the second that was chosen, if it is no choice
abbrev pub chosen_last : Tree → Option Tree
chosen_last (Second (First x)) = None
chosen_last (Second (Second x)) = None
chosen_last (Second x) = Some x
chosen_last _ = None

abbrev pub last_of : Tree → Option Tree
last_of x = chosen_last (chosen x)

-- a list with an element
abbrev pub is_list : Tree → Bool
is_list (More x c spacing y) = true
is_list (Final x) = true
is_list _ = false

-- a turn, and others
abbrev pub is_turns : Tree → Bool
is_turns (Again x y) = true
is_turns _ = false

-- the list of elements that a mark follows, and of a last one that none follows
abbrev pub IsListOf : List Element → Option Tree → Tree → Type 0
IsListOf es o x = (c : ℕ) × (x ≡ elements c es (ending (λ y. y) o))
