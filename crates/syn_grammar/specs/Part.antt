-- What rules say of the parts of a form, of lists and of turns.
use Rattle.std.specs.Prelude.{Bool, true, false, ◌&&◌, ◌||◌, cond, Option, Some, None}
use Rattle.syn_grammar.specs.Name.{Part, same_part}
use Rattle.syn_grammar.specs.Tree.{Tree, Nil, Pair, First, Second, End, Again, Final, More, Group, Called}

-- the first of two, if there is one
abbrev pub or_else : Option Tree → Option Tree → Option Tree
or_else None o = o
or_else (Some x) o = Some x

-- the part of that name, of what an entry reads: not of a kind inside, nor of another part
abbrev pub found : Part → Tree → Option Tree
found n (Called m x) = cond (same_part m n) (Some x) None
found n (Pair x y) = or_else (found n x) (found n y)
found n (First x) = found n x
found n (Second x) = found n x
found n (Group d x) = found n x
found n _ = None

abbrev pub is_some : Option Tree → Bool
is_some None = false
is_some (Some x) = true

abbrev pub or_nil : Option Tree → Tree
or_nil None = Nil
or_nil (Some x) = x

-- it has the part of that name
abbrev pub has : Part → Tree → Bool
has n x = is_some (found n x)

-- its part of that name
abbrev pub the : Part → Tree → Tree
the n x = or_nil (found n x)

-- with its part of that name changed
abbrev pub changed : Part → (Tree → Tree) → Tree → Tree
changed n f (Called m x) = Called m (cond (same_part m n) (f x) x)
changed n f (Pair x y) = Pair (changed n f x) (changed n f y)
changed n f (First x) = First (changed n f x)
changed n f (Second x) = Second (changed n f x)
changed n f (Group d x) = Group d (changed n f x)
changed n f x = x

-- what was chosen
abbrev pub choice : Tree → Tree
choice (First x) = choice x
choice (Second x) = choice x
choice x = x

-- of a list's elements: each passes; some does; each but the first does; each but the last; each that a separator
-- follows
abbrev pub each : (Tree → Bool) → Tree → Bool
each p (More x c spacing y) = p x && each p y
each p (Final x) = p x
each p _ = true

abbrev pub some : (Tree → Bool) → Tree → Bool
some p (More x c spacing y) = p x || some p y
some p (Final x) = p x
some p _ = false

abbrev pub each_but_first : (Tree → Bool) → Tree → Bool
each_but_first p (More x c spacing y) = each p y
each_but_first p _ = true

abbrev pub each_but_last : (Tree → Bool) → Tree → Bool
each_but_last p (More x c spacing End) = true
each_but_last p (More x c spacing y) = p x && each_but_last p y
each_but_last p _ = true

abbrev pub each_separated : (Tree → Bool) → Tree → Bool
each_separated p (More x c spacing y) = p x && each_separated p y
each_separated p _ = true

-- of turns: each but the last passes
abbrev pub each_turn_but_last : (Tree → Bool) → Tree → Bool
each_turn_but_last p (Again x (Again y z)) = p x && each_turn_but_last p (Again y z)
each_turn_but_last p _ = true

-- in a group
abbrev pub in_group : (Tree → Bool) → Tree → Bool
in_group p (Group d x) = p x
in_group p _ = false
