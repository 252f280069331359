-- What is asked of a tree that was read, for its normal form to be read back: the tests and the verdicts of the grammar
-- saw the rest.
use Rattle.std.specs.Prelude.{Bool, true, false, ◌&&◌, ◌||◌, not}
use Rattle.syn_grammar.specs.Kind.{Kind, AConst, AnImpl, AStatement, ClosureParam, FieldPattern, IdentPattern}
use Rattle.syn_grammar.specs.Kind.{OnePattern, OneStatement, Pattern, ReferencePattern, SeveralPatterns}
use Rattle.syn_grammar.specs.Tree.{Tree, Pair, First, Second, Again, Final, More, Group, Dropped, Called, Verbatim}
use Rattle.syn_grammar.specs.Tree.{Node, Whole, Alone, Front, Back, Infix}
use Rattle.syn_grammar.specs.Part.{choice}
use Rattle.laws_reread_kinds.specs.Covered.{has_lone_value, has_own_trait, is_lone, is_no_call, item_of}
use Rattle.laws_reread_kinds.specs.Covered.{stands_alone}

-- Of a tree by itself: a constant has no where clause behind a value, and what an impl implements is a path. As an item
-- among others it would be raw. An item that is a statement is no macro crate! in braces: it is one only before . and
-- ? , and among other statements none of these stands behind it.
abbrev pub is_asked_statement : Tree → Bool
is_asked_statement (Second (Second (Second (First (Node k (First x)))))) = is_no_call (choice (item_of x))
is_asked_statement x = true

abbrev pub is_asked_alone : Tree → Bool
is_asked_alone (Node AConst x) = has_lone_value x
is_asked_alone (Node AnImpl x) = has_own_trait x
is_asked_alone (Node AStatement x) = is_asked_statement x
is_asked_alone (Node OneStatement (First (Node k x))) = is_asked_statement x
is_asked_alone _ = true

-- the kinds that may end in a pattern
abbrev pub ends_in_pattern : Kind → Bool
ends_in_pattern Pattern = true
ends_in_pattern SeveralPatterns = true
ends_in_pattern OnePattern = true
ends_in_pattern IdentPattern = true
ends_in_pattern ReferencePattern = true
ends_in_pattern FieldPattern = true
ends_in_pattern ClosureParam = true
ends_in_pattern k = false

-- No pattern in a tree is a path of one identifier alone; of what is kept as tokens nothing is said.
abbrev pub is_no_lone : Kind → Tree → Bool
is_no_lone OnePattern x = not (is_lone (choice x))
is_no_lone k x = true

abbrev pub no_lone : Tree → Bool
no_lone (Pair x y) = no_lone x && no_lone y
no_lone (First x) = no_lone x
no_lone (Second x) = no_lone x
no_lone (Again x y) = no_lone x && no_lone y
no_lone (Final x) = no_lone x
no_lone (More x c spacing y) = no_lone x && no_lone y
no_lone (Group d x) = no_lone x
no_lone (Dropped x) = no_lone x
no_lone (Called n x) = no_lone x
no_lone (Verbatim x) = true
no_lone (Node k x) = is_no_lone k x && no_lone x
no_lone (Whole x) = no_lone x
no_lone (Alone k y) = no_lone y
no_lone (Front k y x) = no_lone y && no_lone x
no_lone (Back l k y) = no_lone l && no_lone y
no_lone (Infix l k y r) = no_lone y && (no_lone l && no_lone r)
no_lone _ = true

-- A kind that ends in a pattern may stand before ... , by itself alone.
abbrev pub ends_alone : Tree → Bool
ends_alone (Node k x) = not (ends_in_pattern k) || no_lone (Node k x)
ends_alone x = true

-- So it is asked of a tree that stands by itself; of what stands in it nothing is asked.
abbrev pub is_covered : Tree → Bool
is_covered x = stands_alone x && (is_asked_alone x && ends_alone x)
