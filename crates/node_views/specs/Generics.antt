-- Generic parameters, where clauses and visibilities.
use Rattle.std.specs.Prelude.{Bool, true, not, List, Option, Some, None, cond}
use Rattle.syn_grammar.specs.Tree.{Tree}
use Rattle.syn_lists.specs.Lists.{values}
use Rattle.syn_grammar.specs.Kind as k
use Rattle.syn_grammar.specs.Name as n
use Rattle.syn_grammar.specs.Tree as t
use Rattle.node_generics.specs.declared.Generics.{Generics}
use Rattle.node_generics.specs.declared.clause.PredicateLifetime.{PredicateLifetime}
use Rattle.node_generics.specs.declared.clause.PredicateType.{PredicateType}
use Rattle.node_generics.specs.declared.clause.WhereClause.{WhereClause}
use Rattle.node_generics.specs.declared.clause.WherePredicate.TheVariants as predicates
use Rattle.node_generics.specs.declared.clause.WherePredicate.{WherePredicate}
use Rattle.node_generics.specs.declared.param.ConstParam.{ConstParam}
use Rattle.node_generics.specs.declared.param.GenericParam.TheVariants as params
use Rattle.node_generics.specs.declared.param.GenericParam.{GenericParam}
use Rattle.node_generics.specs.declared.param.TypeParam.{TypeParam}
use Rattle.node_generics.specs.declared.visibility.VisRestricted.{VisRestricted}
use Rattle.node_generics.specs.declared.visibility.Visibility.TheVariants as visibilities
use Rattle.node_generics.specs.declared.visibility.Visibility.{Visibility}
use Rattle.syn_kinds.specs.declared.keyword.Keyword.{Keyword}
use Rattle.syn_kinds.specs.declared.punctuation.Punctuation.{Punctuation}
use Rattle.node_words.specs.Words.{◌▸◌, ◌∶◌, alternative, last, absent, optional, mark, keyword, enclosed}
use Rattle.node_words.specs.Words.{mark_or, name, lifetime, list, expression, is_empty}
use Rattle.node_views.specs.Paths.{path, outer_attributes, lifetimes, lifetime_param, bound_lifetimes, bound_list}
use Rattle.node_views.specs.Paths.{bounds_colon}

-- (= Type)?, of which the = is filled in
abbrev pub type_default : {E : Type 0} → (E → Tree) → Option (Punctuation 13 1) → Option E → Tree
type_default f m None = absent
type_default f m (Some x) = t.First (mark_or m ▸ f x)

-- attributes, Ident (: bounds)? (= Type)?
abbrev pub type_param : {E : Type 0} → (E → Tree) → TypeParam E → Tree
type_param f x =
    t.Node k.TypeParam (outer_attributes f x.attrs.items ▸ name x.ident ▸ bounds_colon f x.colon_token x.bounds
    ▸ type_default f x.eq_token x.default)

-- (= literal, Ident or block)?, of which the = is filled in; a hand can put any expression there
abbrev pub const_default : {E : Type 0} → (E → Tree) → Option (Punctuation 13 1) → Option E → Tree
const_default f m None = absent
const_default f m (Some x) = t.First (mark_or m ▸ n.the_value ∶ expression (f x))

-- attributes, const Ident : Type, and a default
abbrev pub const_param : {E : Type 0} → (E → Tree) → ConstParam E → Tree
const_param f x =
    t.Node k.ConstParam (outer_attributes f x.attrs.items ▸ keyword x.const_token ▸ name x.ident
    ▸ mark x.colon_token ▸ f x.ty ▸ const_default f x.eq_token x.default)

abbrev pub generic_param : {E : Type 0} → (E → Tree) → GenericParam E → Tree
generic_param f (params.Lifetime x) = t.Node k.GenericParam (alternative 0 (n.the_lifetime ∶ lifetime_param f x))
generic_param f (params.Const x) = t.Node k.GenericParam (alternative 1 (const_param f x))
generic_param f (params.«Type» x) = t.Node k.GenericParam (last 2 (type_param f x))

-- < parameters >; the brackets are filled in round parameters
abbrev pub are_written : {E P : Type 0} → Option P → List E → Bool
are_written None xs = not (is_empty xs)
are_written (Some m) xs = true

abbrev pub angled_params : {E : Type 0} → (E → Tree) → Generics E → Tree
angled_params f x =
    cond (are_written x.lt_token (values x.params)) (t.First (mark_or x.lt_token
    ▸ n.the_parameters ∶ t.Node k.GenericParams (list (generic_param f) x.params) ▸ mark_or x.gt_token)) absent

abbrev pub generics : {E : Type 0} → (E → Tree) → Generics E → Tree
generics f x = t.Node k.Generics (angled_params f x)

abbrev pub impl_generics : {E : Type 0} → (E → Tree) → Generics E → Tree
impl_generics f x = t.Node k.ImplGenerics (angled_params f x)

-- lifetime : lifetimes
abbrev pub predicate_lifetime : PredicateLifetime → Tree
predicate_lifetime x = lifetime x.lifetime ▸ mark x.colon_token ▸ lifetimes x.bounds

-- (for <lifetimes>)? Type : bounds
abbrev pub predicate_type : {E : Type 0} → (E → Tree) → PredicateType E → Tree
predicate_type f x =
    optional (bound_lifetimes f) x.lifetimes ▸ f x.bounded_ty ▸ mark x.colon_token ▸ bound_list f x.bounds

abbrev pub where_predicate : {E : Type 0} → (E → Tree) → WherePredicate E → Tree
where_predicate f (predicates.Lifetime x) = t.Node k.WherePredicate (t.First (predicate_lifetime x))
where_predicate f (predicates.«Type» x) = t.Node k.WherePredicate (t.Second (predicate_type f x))

-- where predicates; one of its ends stands behind it, of which nothing is taken
abbrev pub where_clause : {E : Type 0} → (E → Tree) → WhereClause E → Tree
where_clause f x =
    t.Node k.WhereClause (keyword x.where_token ▸ n.the_parameters ∶ list (where_predicate f) x.predicates
    ▸ t.First t.Nil)

abbrev pub clause_part : {E : Type 0} → (E → Tree) → WhereClause E → Tree
clause_part f x = n.the_clause ∶ where_clause f x

-- the where clause of an item's generics, or none
abbrev pub where_of : {E : Type 0} → (E → Tree) → Generics E → Tree
where_of f x = n.the_where ∶ t.Node k.Where (optional (clause_part f) x.where_clause)

-- none, of what can't have one
abbrev pub no_where : Tree
no_where = n.the_where ∶ t.Node k.Where absent

abbrev pub no_generics : Tree
no_generics = n.the_generics ∶ t.Node k.Generics absent

-- In parentheses: in and a path, or one of the words crate, self and super. Another path, as only a hand can put it
-- there, is written as it is.
abbrev pub lone_word : Tree → Tree
lone_word (t.Node (k.Path s) (t.Pair (t.Second t.Nil) (t.Node (k.Segments r) (t.First (t.Pair w (t.Second t.Nil)))))) =
    w
lone_word x = x

abbrev pub restriction : {E : Type 0} → (E → Tree) → Option (Keyword 21) → VisRestricted E → Tree
restriction f None x = t.Second (enclosed x.paren_token (lone_word (path f x.path.value)))
restriction f (Some w) x = t.First (enclosed x.paren_token (keyword w ▸ path f x.path.value))

-- pub with a restriction, pub alone, or nothing
abbrev pub public : Tree → Tree → Tree
public w x = t.Node k.Visibility (t.First (n.the_pub ∶ w ▸ x))

abbrev pub visibility : {E : Type 0} → (E → Tree) → Visibility E → Tree
visibility f (visibilities.Public w) = public (keyword w) absent
visibility f (visibilities.Restricted x) = public (keyword x.pub_token) (t.First (restriction f x.in_token x))
visibility f visibilities.Inherited = t.Node k.Visibility absent
