-- Trees in which a list has two separators. No value is one: behind each element of a value's list but a last one the
-- same mark stands (`elements` in reader_tree's `Forms`).
--
-- Normal form makes one of a list with + between its elements, as only a hand can make it, whose last element is a
-- lifetime that no mark follows, where others that are no lifetimes stand before it: the lifetime comes before these,
-- with a comma behind it (`joined` in syn_grammar's `Tidy`).
use Rattle.std.specs.Prelude.{◌≡◌, ℕ, Bool, true, false, not, ◌||◌, nat_eq}
use Rattle.syn_grammar.specs.Tree.{Tree, Pair, First, Second, Again, Final, More, Group, Dropped, Called, Verbatim}
use Rattle.syn_grammar.specs.Tree.{Hidden, Node, Whole, Alone, Front, Back, Infix}
use Rattle.writer_normal.specs.declared.fault.Fault.{Fault}
use Rattle.writer_normal.specs.declared.fault.Fault.TheVariants as faults

-- a separator of the list is not that mark
abbrev pub has_other : ℕ → Tree → Bool
has_other c (More x d spacing y) = not (nat_eq d c) || has_other c y
has_other c _ = false

-- at some depth a list has two separators
abbrev pub is_mixed : Tree → Bool
is_mixed (More x c spacing y) = has_other c y || (is_mixed x || is_mixed y)
is_mixed (Pair x y) = is_mixed x || is_mixed y
is_mixed (First x) = is_mixed x
is_mixed (Second x) = is_mixed x
is_mixed (Again x y) = is_mixed x || is_mixed y
is_mixed (Final x) = is_mixed x
is_mixed (Group d x) = is_mixed x
is_mixed (Dropped x) = is_mixed x
is_mixed (Called n x) = is_mixed x
is_mixed (Verbatim x) = is_mixed x
is_mixed (Hidden x) = is_mixed x
is_mixed (Node k x) = is_mixed x
is_mixed (Whole x) = is_mixed x
is_mixed (Alone k y) = is_mixed y
is_mixed (Front k y x) = is_mixed y || is_mixed x
is_mixed (Back l k y) = is_mixed l || is_mixed y
is_mixed (Infix l k y r) = is_mixed l || (is_mixed y || is_mixed r)
is_mixed _ = false

-- why a tree isn't made: memory ran out, or no value is it
abbrev pub IsFault : Fault → Tree → Type 0
IsFault fault x = fault ≡ faults.Separators → is_mixed x ≡ true
