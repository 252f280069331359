-- What each kind of core form reads, by its entry: what readers in code go by, one step at a time.
use Rattle.std.proofs.Common.{◌≡◌, List, refl, sym, ap, ◌∙◌}
use Rattle.proc_macro2.specs.Token.{Token}
use Rattle.syn_grammar.specs.Kind.{Kind, Style, Plus, AtType, WithPlus, Path, Segments, QualifiedPath, AnyPath}
use Rattle.syn_grammar.specs.Kind.{Arguments, AnArgument, ParenthesizedArguments, AMacro, Delimited, Member, Index}
use Rattle.syn_grammar.specs.Kind.{AType, DynType, ImplType, ReturnType, TupleType, NeverType, ReferenceType}
use Rattle.syn_grammar.specs.Kind.{PointerType, BracketType, InferType, FnPtrType, FnPtrArg, Bounds, SomeBounds, Bound}
use Rattle.syn_grammar.specs.Kind.{TraitPath, BoundLifetimes, Lifetimes, Abi, Pattern, SeveralPatterns, OnePattern}
use Rattle.syn_grammar.specs.Kind.{IdentPattern, WildPattern, RangeToPattern, RestPattern, TuplePattern, SlicePattern}
use Rattle.syn_grammar.specs.Kind.{ReferencePattern, LiteralPattern, PathPattern, RangeEnd, RangeBound, FieldPatterns}
use Rattle.syn_grammar.specs.Kind.{FieldPattern, OuterAttributes, OuterAttribute, InnerAttributes, InnerAttribute, Meta}
use Rattle.syn_grammar.specs.Kind.{Generics, ImplGenerics, GenericParams, GenericParam, LifetimeParam, LifetimeColon}
use Rattle.syn_grammar.specs.Kind.{ConstParam, TypeParam, BoundsColon, Where, WhereClause, WherePredicate}
use Rattle.syn_grammar.specs.Tree.{Tree, Node}
use Rattle.syn_grammar.specs.Paths.{path, segments, qualified_path, any_path, arguments, argument}
use Rattle.syn_grammar.specs.Paths.{parenthesized_arguments, macro, delimited, member, index}
use Rattle.syn_grammar.specs.Types.{type_entry, dyn_type, impl_type, return_type, tuple_type, never_type}
use Rattle.syn_grammar.specs.Types.{reference_type, pointer_type, bracket_type, infer_type, fn_ptr_type, fn_ptr_arg}
use Rattle.syn_grammar.specs.Types.{bounds, some_bounds, bound, trait_path, bound_lifetimes, lifetimes, abi}
use Rattle.syn_grammar.specs.Patterns.{pattern, several_patterns, one_pattern, ident_pattern, wild_pattern}
use Rattle.syn_grammar.specs.Patterns.{range_to_pattern, rest_pattern, tuple_pattern, slice_pattern, reference_pattern}
use Rattle.syn_grammar.specs.Patterns.{literal_pattern, path_pattern, range_end, range_bound, field_patterns}
use Rattle.syn_grammar.specs.Patterns.{field_pattern}
use Rattle.syn_grammar.specs.Attributes.{outer_attributes, outer_attribute, inner_attributes, inner_attribute, meta}
use Rattle.syn_grammar.specs.Generics.{generics, impl_generics, generic_params, generic_param, lifetime_param}
use Rattle.syn_grammar.specs.Generics.{lifetime_colon, const_param, type_param, bounds_colon, optional_where}
use Rattle.syn_grammar.specs.Generics.{where_clause, where_predicate}
use Rattle.syn_grammar.specs.Table.{table}
use Rattle.syn_grammar.specs.Kept.{kept, held, listed_bound, unsafe_path, plain_member, plain_index, constant_argument}
use Rattle.syn_grammar.specs.Kept.{constant_default}
use Rattle.syn_grammar.specs.Name.{the_value}
use Rattle.syn_grammar.specs.Part.{changed}
use Rattle.syn_grammar.specs.Keeps.{kepts, keeps, node}
use Rattle.syn_grammar.specs.Read.{IsRead, NoneRead}
use Rattle.syn_grammar.specs.Run.{Refused, Got, wrap, kind, interp, reads}
use Rattle.syn_grammar.proofs.Theorems.{one_step, found, complete}
use Rattle.syn_grammar.proofs.Keeps.{kept_wrap, kept_interp, got_kept, refused_kept}

-- what is kept of a kind is what is kept of its entry, as a node
pub step : (k : Kind) (ts : List Token) → kepts (kind k) ts ≡ wrap (node k) (keeps (table k) ts)
step k ts =
    ap (wrap kept) (one_step k ts)
    ∙ kept_wrap (Node k) (node k) (λ x. refl) (interp reads (table k) ts)
    ∙ ap (wrap (node k)) (kept_interp (table k) ts)

pub read_path : (s : Style) (ts : List Token) → kepts (kind (Path s)) ts ≡ wrap (Node (Path AtType)) (keeps (path s) ts)
unfolding table held
read_path s ts = step (Path s) ts

pub read_segments : (s : Style) (ts : List Token)
    → kepts (kind (Segments s)) ts ≡ wrap (Node (Segments AtType)) (keeps (segments s) ts)
unfolding table held
read_segments s ts = step (Segments s) ts

pub read_qualified_path : (s : Style) (ts : List Token)
    → kepts (kind (QualifiedPath s)) ts ≡ wrap (Node (QualifiedPath AtType)) (keeps (qualified_path s) ts)
unfolding table held
read_qualified_path s ts = step (QualifiedPath s) ts

pub read_any_path : (s : Style) (ts : List Token)
    → kepts (kind (AnyPath s)) ts ≡ wrap (Node (AnyPath AtType)) (keeps (any_path s) ts)
unfolding table held
read_any_path s ts = step (AnyPath s) ts

pub read_arguments : (ts : List Token) → kepts (kind Arguments) ts ≡ wrap (Node Arguments) (keeps arguments ts)
unfolding table held
read_arguments ts = step Arguments ts

pub read_argument : (ts : List Token) → kepts (kind AnArgument) ts
    ≡ wrap (λ x. Node AnArgument (constant_argument x)) (keeps argument ts)
unfolding table held
read_argument ts = step AnArgument ts

pub read_parenthesized_arguments : (ts : List Token)
    → kepts (kind ParenthesizedArguments) ts ≡ wrap (Node ParenthesizedArguments) (keeps parenthesized_arguments ts)
unfolding table held
read_parenthesized_arguments ts = step ParenthesizedArguments ts

pub read_macro : (ts : List Token) → kepts (kind AMacro) ts ≡ wrap (Node AMacro) (keeps macro ts)
unfolding table held
read_macro ts = step AMacro ts

pub read_delimited : (ts : List Token) → kepts (kind Delimited) ts ≡ wrap (Node Delimited) (keeps delimited ts)
unfolding table held
read_delimited ts = step Delimited ts

pub read_member : (ts : List Token) → kepts (kind Member) ts
    ≡ wrap (λ x. Node Member (plain_member x)) (keeps member ts)
unfolding table held
read_member ts = step Member ts

pub read_index : (ts : List Token) → kepts (kind Index) ts ≡ wrap (λ x. Node Index (plain_index x)) (keeps index ts)
unfolding table held
read_index ts = step Index ts

pub read_type : (p : Plus) (ts : List Token)
    → kepts (kind (AType p)) ts ≡ wrap (Node (AType WithPlus)) (keeps (type_entry p) ts)
unfolding table held
read_type p ts = step (AType p) ts

pub read_dyn_type : (p : Plus) (ts : List Token)
    → kepts (kind (DynType p)) ts ≡ wrap (λ x. Node (DynType WithPlus) (listed_bound x)) (keeps (dyn_type p) ts)
unfolding table held
read_dyn_type p ts = step (DynType p) ts

pub read_impl_type : (p : Plus) (ts : List Token)
    → kepts (kind (ImplType p)) ts ≡ wrap (λ x. Node (ImplType WithPlus) (listed_bound x)) (keeps (impl_type p) ts)
unfolding table held
read_impl_type p ts = step (ImplType p) ts

pub read_return_type : (p : Plus) (ts : List Token)
    → kepts (kind (ReturnType p)) ts ≡ wrap (Node (ReturnType WithPlus)) (keeps (return_type p) ts)
unfolding table held
read_return_type p ts = step (ReturnType p) ts

pub read_tuple_type : (ts : List Token) → kepts (kind TupleType) ts ≡ wrap (Node TupleType) (keeps tuple_type ts)
unfolding table held
read_tuple_type ts = step TupleType ts

pub read_never_type : (ts : List Token) → kepts (kind NeverType) ts ≡ wrap (Node NeverType) (keeps never_type ts)
unfolding table held
read_never_type ts = step NeverType ts

pub read_reference_type : (ts : List Token)
    → kepts (kind ReferenceType) ts ≡ wrap (Node ReferenceType) (keeps reference_type ts)
unfolding table held
read_reference_type ts = step ReferenceType ts

pub read_pointer_type : (ts : List Token)
    → kepts (kind PointerType) ts ≡ wrap (Node PointerType) (keeps pointer_type ts)
unfolding table held
read_pointer_type ts = step PointerType ts

pub read_bracket_type : (ts : List Token)
    → kepts (kind BracketType) ts ≡ wrap (Node BracketType) (keeps bracket_type ts)
unfolding table held
read_bracket_type ts = step BracketType ts

pub read_infer_type : (ts : List Token) → kepts (kind InferType) ts ≡ wrap (Node InferType) (keeps infer_type ts)
unfolding table held
read_infer_type ts = step InferType ts

pub read_fn_ptr_type : (ts : List Token) → kepts (kind FnPtrType) ts ≡ wrap (Node FnPtrType) (keeps fn_ptr_type ts)
unfolding table held
read_fn_ptr_type ts = step FnPtrType ts

pub read_fn_ptr_arg : (ts : List Token) → kepts (kind FnPtrArg) ts ≡ wrap (Node FnPtrArg) (keeps fn_ptr_arg ts)
unfolding table held
read_fn_ptr_arg ts = step FnPtrArg ts

pub read_bounds : (ts : List Token) → kepts (kind Bounds) ts ≡ wrap (Node Bounds) (keeps bounds ts)
unfolding table held
read_bounds ts = step Bounds ts

pub read_some_bounds : (ts : List Token) → kepts (kind SomeBounds) ts ≡ wrap (Node SomeBounds) (keeps some_bounds ts)
unfolding table held
read_some_bounds ts = step SomeBounds ts

pub read_bound : (ts : List Token) → kepts (kind Bound) ts ≡ wrap (Node Bound) (keeps bound ts)
unfolding table held
read_bound ts = step Bound ts

pub read_trait_path : (ts : List Token) → kepts (kind TraitPath) ts ≡ wrap (Node TraitPath) (keeps trait_path ts)
unfolding table held
read_trait_path ts = step TraitPath ts

pub read_bound_lifetimes : (ts : List Token)
    → kepts (kind BoundLifetimes) ts ≡ wrap (Node BoundLifetimes) (keeps bound_lifetimes ts)
unfolding table held
read_bound_lifetimes ts = step BoundLifetimes ts

pub read_lifetimes : (ts : List Token) → kepts (kind Lifetimes) ts ≡ wrap (Node Lifetimes) (keeps lifetimes ts)
unfolding table held
read_lifetimes ts = step Lifetimes ts

pub read_abi : (ts : List Token) → kepts (kind Abi) ts ≡ wrap (Node Abi) (keeps abi ts)
unfolding table held
read_abi ts = step Abi ts

pub read_pattern : (ts : List Token) → kepts (kind Pattern) ts ≡ wrap (Node Pattern) (keeps pattern ts)
unfolding table held
read_pattern ts = step Pattern ts

pub read_several_patterns : (ts : List Token)
    → kepts (kind SeveralPatterns) ts ≡ wrap (Node SeveralPatterns) (keeps several_patterns ts)
unfolding table held
read_several_patterns ts = step SeveralPatterns ts

pub read_one_pattern : (ts : List Token) → kepts (kind OnePattern) ts ≡ wrap (Node OnePattern) (keeps one_pattern ts)
unfolding table held
read_one_pattern ts = step OnePattern ts

pub read_ident_pattern : (ts : List Token)
    → kepts (kind IdentPattern) ts ≡ wrap (Node IdentPattern) (keeps ident_pattern ts)
unfolding table held
read_ident_pattern ts = step IdentPattern ts

pub read_wild_pattern : (ts : List Token)
    → kepts (kind WildPattern) ts ≡ wrap (Node WildPattern) (keeps wild_pattern ts)
unfolding table held
read_wild_pattern ts = step WildPattern ts

pub read_range_to_pattern : (ts : List Token)
    → kepts (kind RangeToPattern) ts ≡ wrap (Node RangeToPattern) (keeps range_to_pattern ts)
unfolding table held
read_range_to_pattern ts = step RangeToPattern ts

pub read_rest_pattern : (ts : List Token)
    → kepts (kind RestPattern) ts ≡ wrap (Node RestPattern) (keeps rest_pattern ts)
unfolding table held
read_rest_pattern ts = step RestPattern ts

pub read_tuple_pattern : (ts : List Token)
    → kepts (kind TuplePattern) ts ≡ wrap (Node TuplePattern) (keeps tuple_pattern ts)
unfolding table held
read_tuple_pattern ts = step TuplePattern ts

pub read_slice_pattern : (ts : List Token)
    → kepts (kind SlicePattern) ts ≡ wrap (Node SlicePattern) (keeps slice_pattern ts)
unfolding table held
read_slice_pattern ts = step SlicePattern ts

pub read_reference_pattern : (ts : List Token)
    → kepts (kind ReferencePattern) ts ≡ wrap (Node ReferencePattern) (keeps reference_pattern ts)
unfolding table held
read_reference_pattern ts = step ReferencePattern ts

pub read_literal_pattern : (ts : List Token)
    → kepts (kind LiteralPattern) ts ≡ wrap (Node LiteralPattern) (keeps literal_pattern ts)
unfolding table held
read_literal_pattern ts = step LiteralPattern ts

pub read_path_pattern : (ts : List Token)
    → kepts (kind PathPattern) ts ≡ wrap (Node PathPattern) (keeps path_pattern ts)
unfolding table held
read_path_pattern ts = step PathPattern ts

pub read_range_end : (ts : List Token) → kepts (kind RangeEnd) ts ≡ wrap (Node RangeEnd) (keeps range_end ts)
unfolding table held
read_range_end ts = step RangeEnd ts

pub read_range_bound : (ts : List Token) → kepts (kind RangeBound) ts ≡ wrap (Node RangeBound) (keeps range_bound ts)
unfolding table held
read_range_bound ts = step RangeBound ts

pub read_field_patterns : (ts : List Token)
    → kepts (kind FieldPatterns) ts ≡ wrap (Node FieldPatterns) (keeps field_patterns ts)
unfolding table held
read_field_patterns ts = step FieldPatterns ts

pub read_field_pattern : (ts : List Token)
    → kepts (kind FieldPattern) ts ≡ wrap (Node FieldPattern) (keeps field_pattern ts)
unfolding table held
read_field_pattern ts = step FieldPattern ts

pub read_outer_attributes : (ts : List Token)
    → kepts (kind OuterAttributes) ts ≡ wrap (Node OuterAttributes) (keeps outer_attributes ts)
unfolding table held
read_outer_attributes ts = step OuterAttributes ts

pub read_outer_attribute : (ts : List Token)
    → kepts (kind OuterAttribute) ts ≡ wrap (Node OuterAttribute) (keeps outer_attribute ts)
unfolding table held
read_outer_attribute ts = step OuterAttribute ts

pub read_inner_attributes : (ts : List Token)
    → kepts (kind InnerAttributes) ts ≡ wrap (Node InnerAttributes) (keeps inner_attributes ts)
unfolding table held
read_inner_attributes ts = step InnerAttributes ts

pub read_inner_attribute : (ts : List Token)
    → kepts (kind InnerAttribute) ts ≡ wrap (Node InnerAttribute) (keeps inner_attribute ts)
unfolding table held
read_inner_attribute ts = step InnerAttribute ts

pub read_meta : (ts : List Token) → kepts (kind Meta) ts ≡ wrap (λ x. Node Meta (unsafe_path x)) (keeps meta ts)
unfolding table held
read_meta ts = step Meta ts

pub read_generics : (ts : List Token) → kepts (kind Generics) ts ≡ wrap (Node Generics) (keeps generics ts)
unfolding table held
read_generics ts = step Generics ts

pub read_impl_generics : (ts : List Token)
    → kepts (kind ImplGenerics) ts ≡ wrap (Node ImplGenerics) (keeps impl_generics ts)
unfolding table held
read_impl_generics ts = step ImplGenerics ts

pub read_generic_params : (ts : List Token)
    → kepts (kind GenericParams) ts ≡ wrap (Node GenericParams) (keeps generic_params ts)
unfolding table held
read_generic_params ts = step GenericParams ts

pub read_generic_param : (ts : List Token)
    → kepts (kind GenericParam) ts ≡ wrap (Node GenericParam) (keeps generic_param ts)
unfolding table held
read_generic_param ts = step GenericParam ts

pub read_lifetime_param : (ts : List Token)
    → kepts (kind LifetimeParam) ts ≡ wrap (Node LifetimeParam) (keeps lifetime_param ts)
unfolding table held
read_lifetime_param ts = step LifetimeParam ts

pub read_lifetime_colon : (ts : List Token)
    → kepts (kind LifetimeColon) ts ≡ wrap (Node LifetimeColon) (keeps lifetime_colon ts)
unfolding table held
read_lifetime_colon ts = step LifetimeColon ts

pub read_const_param : (ts : List Token) → kepts (kind ConstParam) ts
    ≡ wrap (λ x. Node ConstParam (changed the_value constant_default x)) (keeps const_param ts)
unfolding table held
read_const_param ts = step ConstParam ts

pub read_type_param : (ts : List Token) → kepts (kind TypeParam) ts ≡ wrap (Node TypeParam) (keeps type_param ts)
unfolding table held
read_type_param ts = step TypeParam ts

pub read_bounds_colon : (ts : List Token)
    → kepts (kind BoundsColon) ts ≡ wrap (Node BoundsColon) (keeps bounds_colon ts)
unfolding table held
read_bounds_colon ts = step BoundsColon ts

pub read_where : (ts : List Token) → kepts (kind Where) ts ≡ wrap (Node Where) (keeps optional_where ts)
unfolding table held
read_where ts = step Where ts

pub read_where_clause : (ts : List Token)
    → kepts (kind WhereClause) ts ≡ wrap (Node WhereClause) (keeps where_clause ts)
unfolding table held
read_where_clause ts = step WhereClause ts

pub read_where_predicate : (ts : List Token)
    → kepts (kind WherePredicate) ts ≡ wrap (Node WherePredicate) (keeps where_predicate ts)
unfolding table held
read_where_predicate ts = step WherePredicate ts

-- what the run gives is read, and where it refuses nothing is
pub given : (k : Kind) (ts : List Token) (y : Tree) (r : List Token) → kepts (kind k) ts ≡ Got y r → IsRead k ts y r
given k ts y r e =
    let (x, h, i) = got_kept (reads (kind k) ts) y r e in
    let own = found k ts x r h in
    record { tree = x; derived = own.0; spelled = own.1; kept_is = i }

pub none : (k : Kind) (ts : List Token) → kepts (kind k) ts ≡ Refused → NoneRead k ts
none k ts e x r d s =
    let h : reads (kind k) ts ≡ Got x r = ap (reads (kind k)) (sym s) ∙ complete k x r d in
    let f : Got x r ≡ Refused = sym h ∙ refused_kept (reads (kind k) ts) e in cc
