-- Normal form, of the parts of a kind: nothing empty is written, and lifetimes come first.
use Rattle.std.specs.Prelude.{Bool, true, false, ◌&&◌, ◌||◌, not, cond}
use Rattle.rust_leaf.specs.declared.punct.Spacing.TheVariants.{Alone as Apart}
use Rattle.syn_grammar.specs.Kind.{Kind, AType, AnyPath, QualifiedPath, Path, Segments, GenericParams, GenericParam}
use Rattle.syn_grammar.specs.Kind.{AnArgument, Where, WhereClause, Generics, ImplGenerics, BoundsColon, LifetimeColon}
use Rattle.syn_grammar.specs.Kind.{Bounds, Lifetimes, Arguments, ATypeAlias, AnImpl}
use Rattle.syn_grammar.specs.Name.{the_clause, the_parameters, the_bounds, the_lifetime, the_arguments, the_value}
use Rattle.syn_grammar.specs.Name.{the_generics, the_polarity, the_self, the_first}
use Rattle.syn_grammar.specs.Words.{is_ident}
use Rattle.syn_grammar.specs.Tree.{Tree, AWord, Nil, Pair, First, Second, End, Final, More, Called, Node}
use Rattle.syn_grammar.specs.Part.{has, the, changed, choice}

-- What is removed where there is nothing in it: a where clause without predicates, generics without parameters, a colon
-- before no bounds.
abbrev pub removed_if : (Tree → Bool) → Tree → Tree
removed_if e x = cond (e x) (Second Nil) x

-- a list without elements
abbrev pub is_none : Tree → Bool
is_none End = true
is_none _ = false

abbrev pub is_bare_clause : Tree → Bool
is_bare_clause (Node WhereClause x) = is_none (the the_parameters x)
is_bare_clause _ = false

-- A where clause without predicates is removed as a part of a form; one that is read by itself keeps its where.
abbrev pub is_bare_where : Tree → Bool
is_bare_where x = is_bare_clause (the the_clause x)

-- generics without parameters
abbrev pub is_bare_params : Tree → Bool
is_bare_params (Node GenericParams End) = true
is_bare_params _ = false

abbrev pub is_bare_generics : Tree → Bool
is_bare_generics x = is_bare_params (the the_parameters x)

-- a colon, and no bound
abbrev pub is_bare_bounds : Tree → Bool
is_bare_bounds (Node Bounds End) = true
is_bare_bounds (Node Lifetimes End) = true
is_bare_bounds _ = false

abbrev pub is_bare_colon : Tree → Bool
is_bare_colon x = is_bare_bounds (the the_bounds x)

-- Lifetimes come first among parameters and arguments.
abbrev pub is_lifetime_param : Tree → Bool
is_lifetime_param (Node GenericParam x) = has the_lifetime x
is_lifetime_param _ = false

abbrev pub is_lifetime_argument : Tree → Bool
is_lifetime_argument (Node AnArgument x) = has the_lifetime x
is_lifetime_argument _ = false

-- an element that no separator followed, before others
abbrev pub joined : Tree → Tree → Tree
joined x End = Final x
joined x y = More x 44 Apart y

-- the elements that pass, before others
abbrev pub those_then : (Tree → Bool) → Tree → Tree → Tree
those_then p (More x c spacing y) o = cond (p x) (More x c spacing (those_then p y o)) (those_then p y o)
those_then p (Final x) o = cond (p x) (joined x o) o
those_then p _ o = o

-- the elements that don't
abbrev pub others_of : (Tree → Bool) → Tree → Tree
others_of p (More x c spacing y) = cond (p x) (others_of p y) (More x c spacing (others_of p y))
others_of p (Final x) = cond (p x) End (Final x)
others_of p x = x

-- in their order, each with the comma that it held; one is added behind the last lifetime where others follow
abbrev pub lifetimes_first : (Tree → Bool) → Tree → Tree
lifetimes_first p x = those_then p x (others_of p x)

-- A where clause that is not there stands behind the definition.
abbrev pub is_absent : Tree → Bool
is_absent (Called n (Node Where (Second x))) = true
is_absent _ = false

abbrev pub moved : Tree → Tree
moved (First (Pair w d)) = cond (is_absent w) (Second (Pair d w)) (First (Pair w d))
moved x = x

-- Kept are the empty generics of an impl without polarity and trait whose type begins < Ident >.

-- one Ident, as a path
abbrev pub is_lone_segment : Tree → Bool
is_lone_segment (Node (Segments s) (Second (Pair (AWord cs) (Second (Second (Second z)))))) = is_ident cs
is_lone_segment _ = false

abbrev pub is_lone_path : Tree → Bool
is_lone_path (Node (AnyPath s) (Second (Node (Path t) (Pair (Second z) x)))) = is_lone_segment x
is_lone_path _ = false

abbrev pub is_ident_type : Tree → Bool
is_ident_type (Node (AType p) x) = is_lone_path (choice x)
is_ident_type _ = false

-- a qualified path that begins with < Ident >
abbrev pub is_bracketed : Tree → Bool
is_bracketed (Node (AnyPath s) (First (Node (QualifiedPath t) (Pair l (Pair x (Pair (Second z) y)))))) = is_ident_type x
is_bracketed _ = false

abbrev pub begins_bracketed : Tree → Bool
begins_bracketed (Node (AType p) x) = is_bracketed (choice x)
begins_bracketed _ = false

abbrev pub keeps_generics : Tree → Bool
keeps_generics x = not (has the_polarity x || has the_self x) && begins_bracketed (the the_first x)

abbrev pub without_generics : Tree → Tree
without_generics (Node ImplGenerics g) = Node ImplGenerics (removed_if is_bare_generics g)
without_generics g = g

abbrev pub tidy_impl : Tree → Tree
tidy_impl x = cond (keeps_generics x) x (changed the_generics without_generics x)

-- what normal form makes of a kind's tree
abbrev pub tidy : Kind → Tree → Tree
tidy Where x = removed_if is_bare_where x
tidy Generics x = removed_if is_bare_generics x
tidy BoundsColon x = removed_if is_bare_colon x
tidy LifetimeColon x = removed_if is_bare_colon x
tidy GenericParams x = lifetimes_first is_lifetime_param x
tidy Arguments x = changed the_arguments (lifetimes_first is_lifetime_argument) x
tidy (ATypeAlias p) x = changed the_value moved x
tidy AnImpl x = tidy_impl x
tidy k x = x
