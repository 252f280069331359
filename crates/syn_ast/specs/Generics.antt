-- The trees that the types of generics are.
use Rattle.syn_part.specs.Leaves.{lifetime_tree, list_tree, mark_tree, node_tree, optional_tree, word_tree}
use Rattle.syn_part.specs.Sub.{lit_tree, marked_bounds_tree, marked_tree}
use Rattle.syn_ast.specs.declared.generics.AngledParams.{AngledParams}
use Rattle.syn_ast.specs.declared.generics.Bounds.{Bounds}
use Rattle.syn_ast.specs.declared.generics.BoundsColon.{BoundsColon}
use Rattle.syn_ast.specs.declared.generics.ConstDefault.{ConstDefault}
use Rattle.syn_ast.specs.declared.generics.ConstParam.{ConstParam}
use Rattle.syn_ast.specs.declared.generics.ConstValue.{ConstValue}
use Rattle.syn_ast.specs.declared.generics.GenericParam.{GenericParam}
use Rattle.syn_ast.specs.declared.generics.GenericParams.{GenericParams}
use Rattle.syn_ast.specs.declared.generics.Generics.{Generics}
use Rattle.syn_ast.specs.declared.generics.ImplGenerics.{ImplGenerics}
use Rattle.syn_ast.specs.declared.generics.LifetimeColon.{LifetimeColon}
use Rattle.syn_ast.specs.declared.generics.LifetimeParam.{LifetimeParam}
use Rattle.syn_ast.specs.declared.generics.Lifetimes.{Lifetimes}
use Rattle.syn_ast.specs.declared.generics.OptionalWhere.{OptionalWhere}
use Rattle.syn_ast.specs.declared.generics.PredicateLifetime.{PredicateLifetime}
use Rattle.syn_ast.specs.declared.generics.PredicateType.{PredicateType}
use Rattle.syn_ast.specs.declared.generics.TypeParam.{TypeParam}
use Rattle.syn_ast.specs.declared.generics.WhereClause.{WhereClause}
use Rattle.syn_ast.specs.declared.generics.WherePredicate.{WherePredicate}
use Rattle.syn_ast.specs.declared.generics.ConstValue.TheVariants as values
use Rattle.syn_ast.specs.declared.generics.GenericParam.TheVariants as parameters
use Rattle.syn_ast.specs.declared.generics.WherePredicate.TheVariants as predicates
use Rattle.syn_grammar.specs.Kind as k
use Rattle.syn_grammar.specs.Name as n
use Rattle.syn_grammar.specs.Tree as t
use Rattle.syn_grammar.specs.Tree.{Tree}
use denote.Bor.{Bor}

-- parameters in angle brackets: <A, B>
abbrev pub angled_params_tree : AngledParams → Tree
angled_params_tree x = t.Pair (mark_tree x.lt_token) (t.Pair (t.Called n.the_parameters x.params.now)
    (mark_tree x.gt_token))

-- generic parameters: <A, B>, or none
abbrev pub generics : Generics → Tree
generics x = t.Node k.Generics (optional_tree angled_params_tree x.params)

-- the generic parameters of an impl: <A, B>, or none
abbrev pub impl_generics : ImplGenerics → Tree
impl_generics x = t.Node k.ImplGenerics (optional_tree angled_params_tree x.params)

-- generic parameters with commas between them: A, B
abbrev pub generic_params : GenericParams → Tree
generic_params x = t.Node k.GenericParams (list_tree x.params)

-- a lifetime as a parameter, with its attributes: 'a: 'b
abbrev pub lifetime_param : LifetimeParam → Tree
lifetime_param x = t.Node k.LifetimeParam (t.Pair x.attrs.now (t.Pair (lifetime_tree x.lifetime) x.colon.now))

-- what a lifetime outlives: : 'a + 'b, or nothing
abbrev pub lifetime_colon : LifetimeColon → Tree
lifetime_colon x = t.Node k.LifetimeColon (optional_tree marked_bounds_tree x.bounds)

-- bounds behind a colon: : A + B, or none
abbrev pub bounds_colon : BoundsColon → Tree
bounds_colon x = t.Node k.BoundsColon (optional_tree marked_bounds_tree x.bounds)

-- a type as a parameter, with its attributes: T: A = B
abbrev pub type_param : TypeParam → Tree
type_param x = t.Node k.TypeParam (t.Pair x.attrs.now (t.Pair (word_tree x.ident) (t.Pair x.colon.now
    (optional_tree marked_tree x.default))))

-- bounds with + between them
abbrev pub bounds : Bounds → Tree
bounds x = t.Node k.Bounds (list_tree x.bounds)

-- lifetimes with + between them
abbrev pub lifetimes : Lifetimes → Tree
lifetimes x = t.Node k.Lifetimes (list_tree x.lifetimes)

-- the value of a constant where none is given: a literal, a block or a name
abbrev pub const_value : ConstValue → Tree
const_value (values.Lit l) = t.First (lit_tree l)
const_value (values.Block x) = t.Second (t.First x.now)
const_value (values.«Ident» i) = t.Second (t.Second (word_tree i))

-- that value behind =
abbrev pub const_default_tree : ConstDefault → Tree
const_default_tree x = t.Pair (mark_tree x.eq_token) (t.Called n.the_value (const_value x.value))

-- a constant as a parameter, with its attributes: const N: T = 1
abbrev pub const_param : ConstParam → Tree
const_param x = t.Node k.ConstParam (t.Pair x.attrs.now (t.Pair (word_tree x.const_token) (t.Pair (word_tree x.ident)
    (t.Pair (mark_tree x.colon_token) (t.Pair x.ty.now (optional_tree const_default_tree x.default))))))

-- a parameter: a lifetime, a constant or a type
abbrev pub generic_param_inside : GenericParam → Tree
generic_param_inside (parameters.Lifetime x) = t.First (t.Called n.the_lifetime (lifetime_param x))
generic_param_inside (parameters.Const x) = t.Second (t.First (const_param x))
generic_param_inside (parameters.«Type» x) = t.Second (t.Second (type_param x))

-- a parameter, as a node
abbrev pub generic_param : GenericParam → Tree
generic_param x = t.Node k.GenericParam (generic_param_inside x)

-- a where clause: where A: B, C: D; one of its ends stands behind it, of which nothing is taken
abbrev pub where_clause : WhereClause → Tree
where_clause x = t.Node k.WhereClause (t.Pair (word_tree x.where_token) (t.Pair
    (t.Called n.the_parameters (list_tree x.predicates)) (t.First t.Nil)))

-- a where clause that stands, as a part
abbrev pub clause_tree : Bor Tree → Tree
clause_tree x = t.Called n.the_clause x.now

-- a where clause, or none
abbrev pub optional_where : OptionalWhere → Tree
optional_where x = t.Node k.Where (optional_tree clause_tree x.clause)

-- what is asked of a lifetime: 'a: 'b + 'c
abbrev pub predicate_lifetime : PredicateLifetime → Tree
predicate_lifetime x = t.Pair (lifetime_tree x.lifetime) (t.Pair (mark_tree x.colon_token) x.bounds.now)

-- what is asked of a type: for<'a> A: B + C
abbrev pub predicate_type : PredicateType → Tree
predicate_type x = t.Pair (optional_tree node_tree x.lifetimes) (t.Pair x.bounded_ty.now (t.Pair
    (mark_tree x.colon_token) x.bounds.now))

-- what is asked: of a lifetime, or of a type
abbrev pub where_predicate_inside : WherePredicate → Tree
where_predicate_inside (predicates.Lifetime x) = t.First (predicate_lifetime x)
where_predicate_inside (predicates.«Type» x) = t.Second (predicate_type x)

-- what a where clause asks, as a node
abbrev pub where_predicate : WherePredicate → Tree
where_predicate x = t.Node k.WherePredicate (where_predicate_inside x)
