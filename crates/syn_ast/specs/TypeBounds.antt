-- The trees that bounds are.
use Rattle.std.specs.Prelude.{Option, Some, None}
use Rattle.syn_part.specs.Leaves.{lifetime_tree, list_tree, mark_tree, node_tree, optional_tree}
use Rattle.syn_ast.specs.declared.bounds.SomeBounds.{SomeBounds}
use Rattle.syn_ast.specs.declared.bounds.TraitBound.{TraitBound}
use Rattle.syn_ast.specs.declared.bounds.TraitBoundModifier.{TraitBoundModifier}
use Rattle.syn_ast.specs.declared.bounds.TypeParamBound.{TypeParamBound}
use Rattle.syn_ast.specs.declared.bounds.TraitBoundModifier.TheVariants as modifiers
use Rattle.syn_ast.specs.declared.bounds.TypeParamBound.TheVariants as bounds
use Rattle.syn_grammar.specs.Kind as k
use Rattle.syn_grammar.specs.Name as n
use Rattle.syn_grammar.specs.Tree as t
use Rattle.syn_grammar.specs.Tree.{Tree}
use denote.Bor.{Bor}

-- what stands before a trait: ?, or for<'a>, or nothing, and never both
abbrev pub trait_front : TraitBoundModifier → Option (Bor Tree) → Tree
trait_front (modifiers.Maybe m) None = t.First (mark_tree m)
trait_front modifiers.None o = t.Second (optional_tree node_tree o)
trait_front (modifiers.Maybe m) (Some x) = t.Nil

-- a trait as a bound: ?A, for<'a> A<'a>
abbrev pub trait_bound : TraitBound → Tree
trait_bound x = t.Node k.TraitPath (t.Pair (trait_front x.modifier x.lifetimes) x.path.now)

-- a bound: a lifetime, or a trait
abbrev pub bound_inside : TypeParamBound → Tree
bound_inside (bounds.Lifetime l) = t.First (lifetime_tree l)
bound_inside (bounds.Trait x) = t.Second (t.Called n.the_path (trait_bound x))

-- a bound, as a node
abbrev pub type_param_bound : TypeParamBound → Tree
type_param_bound x = t.Node k.Bound (bound_inside x)

-- bounds with + between them, which are kept as one at least of those that were read is a trait
abbrev pub some_bounds : SomeBounds → Tree
some_bounds x = t.Node k.SomeBounds (t.First (list_tree x.bounds))
