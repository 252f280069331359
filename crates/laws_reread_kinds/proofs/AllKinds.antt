-- The steps of all covered kinds, and what is known of each. Written by tools/steps.py.
use Rattle.std.proofs.Common.{◌≡◌, refl}
use Rattle.std.specs.Prelude.{true, false}
use Rattle.syn_grammar.specs.Kind.{Kind, AConst, AConstTrait, AFieldValue, AFile, AForeignItem, AForeignModule}
use Rattle.syn_grammar.specs.Kind.{AFunction, ALet, AMacro, AMacroDefinition, AModule, ARestrictedTrait}
use Rattle.syn_grammar.specs.Kind.{AStatic, AStruct, ATrait, ATraitItem, AType, ATypeAlias, AUnion}
use Rattle.syn_grammar.specs.Kind.{AUse, Abi, AnArgument, AnEnum, AnExternCrate, AnImpl, AnImplItem, AnItem}
use Rattle.syn_grammar.specs.Kind.{AnyPath, Arguments, Arm, Arms, AtType, Block, Body, Bound, BoundLifetimes, Bounds}
use Rattle.syn_grammar.specs.Kind.{BoundsColon, BracketType, ClosureParam, ConstParam, Delimited, DynType}
use Rattle.syn_grammar.specs.Kind.{ExprAnd, ExprArray, ExprAssign, ExprAsync, ExprAttributed, ExprAwait}
use Rattle.syn_grammar.specs.Kind.{ExprBitAnd, ExprBitOr, ExprBitXor, ExprBlock, ExprBreak, ExprCall, ExprCast}
use Rattle.syn_grammar.specs.Kind.{ExprClosure, ExprCompare, ExprConst, ExprContinue, ExprField, ExprForLoop}
use Rattle.syn_grammar.specs.Kind.{ExprGroup, ExprIf, ExprIndex, ExprInfer, ExprLet, ExprLit, ExprLoop, ExprMacro}
use Rattle.syn_grammar.specs.Kind.{ExprMatch, ExprMethodCall, ExprOr, ExprParen, ExprPath, ExprProduct, ExprRange}
use Rattle.syn_grammar.specs.Kind.{ExprRangeClosed, ExprRawAddr, ExprReference, ExprRepeat, ExprReturn, ExprShift}
use Rattle.syn_grammar.specs.Kind.{ExprStruct, ExprSum, ExprTry, ExprTryBlock, ExprTypedClosure, ExprUnary}
use Rattle.syn_grammar.specs.Kind.{ExprUnsafe, ExprWhile, ExprYield, FieldPattern, FieldPatterns, FieldValue}
use Rattle.syn_grammar.specs.Kind.{FieldValues, FnArg, FnPtrArg, FnPtrType, ForeignItems, GenericParam}
use Rattle.syn_grammar.specs.Kind.{GenericParams, Generics, IdentPattern, ImplGenerics, ImplItems, ImplType}
use Rattle.syn_grammar.specs.Kind.{InExpression, InFile, InForeign, InImpl, InModule, InTrait, InType, Index}
use Rattle.syn_grammar.specs.Kind.{InferType, InnerAttribute, InnerAttributes, ItemMacro, Items, Label}
use Rattle.syn_grammar.specs.Kind.{LifetimeColon, LifetimeParam, Lifetimes, LiteralPattern, Member, Meta}
use Rattle.syn_grammar.specs.Kind.{NamedField, NamedFields, NeverType, OnePattern, OuterAttribute}
use Rattle.syn_grammar.specs.Kind.{OuterAttributes, Parameter, Parameters, ParenthesizedArguments, Path}
use Rattle.syn_grammar.specs.Kind.{PathPattern, Pattern, PointerType, QualifiedPath, RangeBound, RangeEnd}
use Rattle.syn_grammar.specs.Kind.{RangeToPattern, Receiver, ReferencePattern, ReferenceType, RestPattern}
use Rattle.syn_grammar.specs.Kind.{ReturnType, Segment, Segments, SeveralPatterns, Signature, SlicePattern}
use Rattle.syn_grammar.specs.Kind.{SomeBounds, Statements, TraitItems, TraitPath, TuplePattern, TupleType}
use Rattle.syn_grammar.specs.Kind.{TypeParam, UnnamedField, UnnamedFields, UseBranch, UseRooted, UseTop, UseTree}
use Rattle.syn_grammar.specs.Kind.{Variant, Visibility, Where, WhereClause, WherePredicate, WildPattern, WithPlus}
use Rattle.syn_grammar.specs.Kind.{WithoutPlus}
use Rattle.syn_grammar.specs.Kept.{held}
use Rattle.syn_grammar.specs.Normal.{passed, place_of}
use Rattle.syn_grammar.specs.Table.{table}
use Rattle.laws_reread_kinds.specs.Covered.{has_step}
use Rattle.laws_reread_kinds.proofs.Readies.{Step}
use Rattle.laws_reread_kinds.proofs.Printed.{KindLaw, simple_kind}
use Rattle.laws_reread_kinds.proofs.Turbofish.{law_segments_in_expression, law_segment_in_expression}
use Rattle.laws_reread_kinds.proofs.KindLaws.{law_arguments, law_an_argument, law_member, law_index, law_dyn}
use Rattle.laws_reread_kinds.proofs.KindLaws.{law_dyn_alone, law_impl, law_impl_alone, law_some_bounds, law_pattern}
use Rattle.laws_reread_kinds.proofs.KindLaws.{law_several, law_outer, law_inner, law_meta, law_generics}
use Rattle.laws_reread_kinds.proofs.KindLaws.{law_generic_params, law_lifetime_colon, law_bounds_colon, law_where}
use Rattle.laws_reread_kinds.proofs.KindLaws.{law_unnamed_field, law_variant, law_trait_type, law_impl_type}
use Rattle.laws_reread_kinds.proofs.ItemVerdicts.{law_const}
use Rattle.laws_reread_kinds.proofs.Alternatives.{law_one_pattern}
use Rattle.laws_reread_kinds.proofs.References.{law_reference_pattern}
use Rattle.laws_reread_kinds.proofs.Elements.{law_field_patterns, law_parameters, law_fn_arg, law_trait}
use Rattle.laws_reread_kinds.proofs.Elements.{law_restricted_trait, law_field_values}
use Rattle.laws_reread_kinds.proofs.Defaults.{law_const_param}
use Rattle.laws_reread_kinds.proofs.Predicates.{law_where_predicate}
use Rattle.laws_reread_kinds.proofs.Receivers.{law_parameter}
use Rattle.laws_reread_kinds.proofs.Aliases.{law_type_in_file, law_type_in_foreign}
use Rattle.laws_reread_kinds.proofs.Lets.{law_a_let}
use Rattle.laws_reread_kinds.proofs.Turns.{law_items, law_foreign_items, law_trait_items}
use Rattle.laws_reread_kinds.proofs.Turns.{law_impl_items}
use Rattle.laws_reread_kinds.proofs.Arms.{law_arms, law_arm}
use Rattle.laws_reread_kinds.proofs.Impls.{law_an_impl}
use Rattle.laws_reread_kinds.proofs.WholeItems.{law_an_item}
use Rattle.laws_reread_kinds.proofs.ForeignItems.{law_a_foreign_item}
use Rattle.laws_reread_kinds.proofs.Members.{law_a_trait_item, law_an_impl_item}
use Rattle.laws_reread_kinds.proofs.Dotted.{law_expr_method_call, law_expr_field, law_expr_await}
use Rattle.laws_reread_kinds.proofs.StepsOfPaths.{step_path_in_module, step_path_in_expression, step_path_in_type}
use Rattle.laws_reread_kinds.proofs.StepsOfPaths.{step_path_at_type, step_segments_in_module, step_segments_in_type}
use Rattle.laws_reread_kinds.proofs.StepsOfPaths.{step_segments_at_type, step_segment_in_module, step_segment_in_type}
use Rattle.laws_reread_kinds.proofs.StepsOfPaths.{step_segment_at_type, step_qualified_path_in_module}
use Rattle.laws_reread_kinds.proofs.StepsOfPaths.{step_qualified_path_in_expression, step_qualified_path_in_type}
use Rattle.laws_reread_kinds.proofs.StepsOfPaths.{step_qualified_path_at_type, step_any_path_in_module}
use Rattle.laws_reread_kinds.proofs.StepsOfPaths.{step_any_path_in_expression, step_any_path_in_type}
use Rattle.laws_reread_kinds.proofs.StepsOfPaths.{step_any_path_at_type, step_arguments, step_an_argument}
use Rattle.laws_reread_kinds.proofs.StepsOfPaths.{step_parenthesized_arguments, step_a_macro, step_delimited}
use Rattle.laws_reread_kinds.proofs.StepsOfPaths.{step_member, step_index}
use Rattle.laws_reread_kinds.proofs.Turbofish.{step_segments_in_expression, step_segment_in_expression}
use Rattle.laws_reread_kinds.proofs.PathTypes.{step_type_with_plus}
use Rattle.laws_reread_kinds.proofs.StepsOfTypes.{step_a_type_without_plus, step_dyn_type_with_plus}
use Rattle.laws_reread_kinds.proofs.StepsOfTypes.{step_impl_type_with_plus, step_return_type_with_plus}
use Rattle.laws_reread_kinds.proofs.StepsOfTypes.{step_return_type_without_plus, step_tuple_type, step_never_type}
use Rattle.laws_reread_kinds.proofs.StepsOfTypes.{step_reference_type, step_pointer_type, step_bracket_type}
use Rattle.laws_reread_kinds.proofs.StepsOfTypes.{step_infer_type, step_fn_ptr_type, step_fn_ptr_arg, step_some_bounds}
use Rattle.laws_reread_kinds.proofs.StepsOfTypes.{step_bounds, step_bound, step_trait_path, step_bound_lifetimes}
use Rattle.laws_reread_kinds.proofs.StepsOfTypes.{step_lifetimes, step_abi}
use Rattle.laws_reread_kinds.proofs.HandSteps.{step_dyn_alone, step_impl_alone, step_visibility}
use Rattle.laws_reread_kinds.proofs.StepsOfPatterns.{step_pattern, step_several_patterns, step_ident_pattern}
use Rattle.laws_reread_kinds.proofs.StepsOfPatterns.{step_wild_pattern, step_range_to_pattern, step_rest_pattern}
use Rattle.laws_reread_kinds.proofs.StepsOfPatterns.{step_tuple_pattern, step_slice_pattern, step_literal_pattern}
use Rattle.laws_reread_kinds.proofs.StepsOfPatterns.{step_path_pattern, step_range_end, step_range_bound}
use Rattle.laws_reread_kinds.proofs.StepsOfPatterns.{step_field_patterns, step_field_pattern}
use Rattle.laws_reread_kinds.proofs.Alternatives.{step_one_pattern}
use Rattle.laws_reread_kinds.proofs.References.{step_reference_pattern}
use Rattle.laws_reread_kinds.proofs.StepsOfAttributes.{step_outer_attributes, step_outer_attribute}
use Rattle.laws_reread_kinds.proofs.StepsOfAttributes.{step_inner_attributes, step_inner_attribute}
use Rattle.laws_reread_kinds.proofs.ValueSteps.{step_meta, step_a_const}
use Rattle.laws_reread_kinds.proofs.StepsOfGenerics.{step_generics, step_generic_params, step_generic_param}
use Rattle.laws_reread_kinds.proofs.StepsOfGenerics.{step_lifetime_param, step_lifetime_colon, step_const_param}
use Rattle.laws_reread_kinds.proofs.StepsOfGenerics.{step_type_param, step_bounds_colon, step_where, step_where_clause}
use Rattle.laws_reread_kinds.proofs.ImplParams.{step_impl_generics}
use Rattle.laws_reread_kinds.proofs.Predicates.{step_where_predicate}
use Rattle.laws_reread_kinds.proofs.StepsOfItems.{step_named_fields, step_unnamed_fields, step_named_field}
use Rattle.laws_reread_kinds.proofs.StepsOfItems.{step_variant, step_a_struct, step_an_enum, step_a_union}
use Rattle.laws_reread_kinds.proofs.StepsOfItems.{step_a_static, step_an_extern_crate, step_a_use, step_use_top}
use Rattle.laws_reread_kinds.proofs.StepsOfItems.{step_use_tree, step_use_branch, step_use_rooted, step_parameters}
use Rattle.laws_reread_kinds.proofs.StepsOfItems.{step_fn_arg, step_receiver, step_signature_in_file}
use Rattle.laws_reread_kinds.proofs.StepsOfItems.{step_signature_in_foreign, step_signature_in_trait}
use Rattle.laws_reread_kinds.proofs.StepsOfItems.{step_signature_in_impl, step_a_function_in_file}
use Rattle.laws_reread_kinds.proofs.StepsOfItems.{step_a_function_in_foreign, step_a_function_in_trait}
use Rattle.laws_reread_kinds.proofs.StepsOfItems.{step_a_function_in_impl, step_a_type_alias_in_trait}
use Rattle.laws_reread_kinds.proofs.StepsOfItems.{step_a_type_alias_in_impl, step_item_macro_in_file}
use Rattle.laws_reread_kinds.proofs.StepsOfItems.{step_item_macro_in_foreign, step_item_macro_in_trait}
use Rattle.laws_reread_kinds.proofs.StepsOfItems.{step_item_macro_in_impl, step_label, step_body, step_block}
use Rattle.laws_reread_kinds.proofs.StepsOfItems.{step_a_module, step_a_foreign_module, step_a_macro_definition}
use Rattle.laws_reread_kinds.proofs.StepsOfItems.{step_a_trait, step_a_const_trait, step_a_restricted_trait}
use Rattle.laws_reread_kinds.proofs.StepsOfItems.{step_a_file}
use Rattle.laws_reread_kinds.proofs.Fields.{step_unnamed_field}
use Rattle.laws_reread_kinds.proofs.Receivers.{step_parameter}
use Rattle.laws_reread_kinds.proofs.Aliases.{step_type_in_file, step_type_in_foreign}
use Rattle.laws_reread_kinds.proofs.Lets.{step_a_let}
use Rattle.laws_reread_kinds.proofs.StatementLists.{law_statements, step_statements}
use Rattle.laws_reread_kinds.proofs.Turns.{step_items, step_foreign_items, step_trait_items}
use Rattle.laws_reread_kinds.proofs.Turns.{step_impl_items}
use Rattle.laws_reread_kinds.proofs.Arms.{step_arms, step_arm}
use Rattle.laws_reread_kinds.proofs.Impls.{step_an_impl}
use Rattle.laws_reread_kinds.proofs.WholeItems.{step_an_item}
use Rattle.laws_reread_kinds.proofs.ForeignItems.{step_a_foreign_item}
use Rattle.laws_reread_kinds.proofs.Members.{step_a_trait_item, step_an_impl_item}
use Rattle.laws_reread_kinds.proofs.StepsOfExpressions.{step_expr_lit, step_expr_path, step_expr_macro}
use Rattle.laws_reread_kinds.proofs.StepsOfExpressions.{step_expr_paren, step_expr_array, step_expr_repeat}
use Rattle.laws_reread_kinds.proofs.StepsOfExpressions.{step_expr_group, step_expr_infer, step_expr_block}
use Rattle.laws_reread_kinds.proofs.StepsOfExpressions.{step_expr_unsafe, step_expr_async, step_expr_const}
use Rattle.laws_reread_kinds.proofs.StepsOfExpressions.{step_expr_try_block, step_expr_if, step_expr_match}
use Rattle.laws_reread_kinds.proofs.StepsOfExpressions.{step_expr_loop, step_expr_while, step_expr_for_loop}
use Rattle.laws_reread_kinds.proofs.StepsOfExpressions.{step_expr_continue, step_expr_typed_closure, step_expr_struct}
use Rattle.laws_reread_kinds.proofs.StepsOfExpressions.{step_expr_call, step_expr_index, step_expr_try, step_expr_cast}
use Rattle.laws_reread_kinds.proofs.StepsOfExpressions.{step_expr_attributed, step_expr_unary, step_expr_raw_addr}
use Rattle.laws_reread_kinds.proofs.StepsOfExpressions.{step_expr_reference, step_expr_let, step_expr_break}
use Rattle.laws_reread_kinds.proofs.StepsOfExpressions.{step_expr_return, step_expr_yield, step_expr_closure}
use Rattle.laws_reread_kinds.proofs.StepsOfExpressions.{step_expr_range, step_expr_range_closed, step_expr_assign}
use Rattle.laws_reread_kinds.proofs.StepsOfExpressions.{step_expr_or, step_expr_and, step_expr_compare}
use Rattle.laws_reread_kinds.proofs.StepsOfExpressions.{step_expr_bit_or, step_expr_bit_xor, step_expr_bit_and}
use Rattle.laws_reread_kinds.proofs.StepsOfExpressions.{step_expr_shift, step_expr_sum, step_expr_product}
use Rattle.laws_reread_kinds.proofs.StepsOfExpressions.{step_field_value, step_closure_param}
use Rattle.laws_reread_kinds.proofs.Dotted.{step_expr_method_call, step_expr_field, step_expr_await}
use Rattle.laws_reread_kinds.proofs.FieldValues.{step_field_values, step_a_field_value}

pub steps : (k : Kind) → has_step k ≡ true → Step k
unfolding has_step
steps (Path InModule) e = step_path_in_module
steps (Path InExpression) e = step_path_in_expression
steps (Path InType) e = step_path_in_type
steps (Path AtType) e = step_path_at_type
steps (Segments InModule) e = step_segments_in_module
steps (Segments InExpression) e = step_segments_in_expression
steps (Segments InType) e = step_segments_in_type
steps (Segments AtType) e = step_segments_at_type
steps (Segment InModule) e = step_segment_in_module
steps (Segment InExpression) e = step_segment_in_expression
steps (Segment InType) e = step_segment_in_type
steps (Segment AtType) e = step_segment_at_type
steps (QualifiedPath InModule) e = step_qualified_path_in_module
steps (QualifiedPath InExpression) e = step_qualified_path_in_expression
steps (QualifiedPath InType) e = step_qualified_path_in_type
steps (QualifiedPath AtType) e = step_qualified_path_at_type
steps (AnyPath InModule) e = step_any_path_in_module
steps (AnyPath InExpression) e = step_any_path_in_expression
steps (AnyPath InType) e = step_any_path_in_type
steps (AnyPath AtType) e = step_any_path_at_type
steps Arguments e = step_arguments
steps AnArgument e = step_an_argument
steps ParenthesizedArguments e = step_parenthesized_arguments
steps AMacro e = step_a_macro
steps Delimited e = step_delimited
steps Member e = step_member
steps Index e = step_index
steps (AType WithPlus) e = step_type_with_plus
steps (AType WithoutPlus) e = step_a_type_without_plus
steps (DynType WithPlus) e = step_dyn_type_with_plus
steps (DynType WithoutPlus) e = step_dyn_alone
steps (ImplType WithPlus) e = step_impl_type_with_plus
steps (ImplType WithoutPlus) e = step_impl_alone
steps (ReturnType WithPlus) e = step_return_type_with_plus
steps (ReturnType WithoutPlus) e = step_return_type_without_plus
steps TupleType e = step_tuple_type
steps NeverType e = step_never_type
steps ReferenceType e = step_reference_type
steps PointerType e = step_pointer_type
steps BracketType e = step_bracket_type
steps InferType e = step_infer_type
steps FnPtrType e = step_fn_ptr_type
steps FnPtrArg e = step_fn_ptr_arg
steps SomeBounds e = step_some_bounds
steps Bounds e = step_bounds
steps Bound e = step_bound
steps TraitPath e = step_trait_path
steps BoundLifetimes e = step_bound_lifetimes
steps Lifetimes e = step_lifetimes
steps Abi e = step_abi
steps Pattern e = step_pattern
steps SeveralPatterns e = step_several_patterns
steps OnePattern e = step_one_pattern
steps IdentPattern e = step_ident_pattern
steps WildPattern e = step_wild_pattern
steps RangeToPattern e = step_range_to_pattern
steps RestPattern e = step_rest_pattern
steps TuplePattern e = step_tuple_pattern
steps SlicePattern e = step_slice_pattern
steps ReferencePattern e = step_reference_pattern
steps LiteralPattern e = step_literal_pattern
steps PathPattern e = step_path_pattern
steps RangeEnd e = step_range_end
steps RangeBound e = step_range_bound
steps FieldPatterns e = step_field_patterns
steps FieldPattern e = step_field_pattern
steps OuterAttributes e = step_outer_attributes
steps OuterAttribute e = step_outer_attribute
steps InnerAttributes e = step_inner_attributes
steps InnerAttribute e = step_inner_attribute
steps Meta e = step_meta
steps Generics e = step_generics
steps ImplGenerics e = step_impl_generics
steps GenericParams e = step_generic_params
steps GenericParam e = step_generic_param
steps LifetimeParam e = step_lifetime_param
steps LifetimeColon e = step_lifetime_colon
steps ConstParam e = step_const_param
steps TypeParam e = step_type_param
steps BoundsColon e = step_bounds_colon
steps Where e = step_where
steps WhereClause e = step_where_clause
steps WherePredicate e = step_where_predicate
steps Visibility e = step_visibility
steps NamedFields e = step_named_fields
steps UnnamedFields e = step_unnamed_fields
steps NamedField e = step_named_field
steps UnnamedField e = step_unnamed_field
steps Variant e = step_variant
steps AStruct e = step_a_struct
steps AnEnum e = step_an_enum
steps AUnion e = step_a_union
steps AStatic e = step_a_static
steps AConst e = step_a_const
steps AnExternCrate e = step_an_extern_crate
steps AUse e = step_a_use
steps UseTop e = step_use_top
steps UseTree e = step_use_tree
steps UseBranch e = step_use_branch
steps UseRooted e = step_use_rooted
steps Parameters e = step_parameters
steps Parameter e = step_parameter
steps FnArg e = step_fn_arg
steps Receiver e = step_receiver
steps (Signature InFile) e = step_signature_in_file
steps (Signature InForeign) e = step_signature_in_foreign
steps (Signature InTrait) e = step_signature_in_trait
steps (Signature InImpl) e = step_signature_in_impl
steps (AFunction InFile) e = step_a_function_in_file
steps (AFunction InForeign) e = step_a_function_in_foreign
steps (AFunction InTrait) e = step_a_function_in_trait
steps (AFunction InImpl) e = step_a_function_in_impl
steps (ATypeAlias InFile) e = step_type_in_file
steps (ATypeAlias InForeign) e = step_type_in_foreign
steps (ATypeAlias InTrait) e = step_a_type_alias_in_trait
steps (ATypeAlias InImpl) e = step_a_type_alias_in_impl
steps (ItemMacro InFile) e = step_item_macro_in_file
steps (ItemMacro InForeign) e = step_item_macro_in_foreign
steps (ItemMacro InTrait) e = step_item_macro_in_trait
steps (ItemMacro InImpl) e = step_item_macro_in_impl
steps Label e = step_label
steps Body e = step_body
steps Block e = step_block
steps ALet e = step_a_let
steps Statements e = step_statements
steps Items e = step_items
steps ForeignItems e = step_foreign_items
steps TraitItems e = step_trait_items
steps ImplItems e = step_impl_items
steps AModule e = step_a_module
steps AForeignModule e = step_a_foreign_module
steps AMacroDefinition e = step_a_macro_definition
steps ATrait e = step_a_trait
steps AConstTrait e = step_a_const_trait
steps ARestrictedTrait e = step_a_restricted_trait
steps AnImpl e = step_an_impl
steps AnItem e = step_an_item
steps AForeignItem e = step_a_foreign_item
steps ATraitItem e = step_a_trait_item
steps AnImplItem e = step_an_impl_item
steps AFile e = step_a_file
steps ExprLit e = step_expr_lit
steps ExprPath e = step_expr_path
steps ExprMacro e = step_expr_macro
steps ExprParen e = step_expr_paren
steps ExprArray e = step_expr_array
steps ExprRepeat e = step_expr_repeat
steps ExprGroup e = step_expr_group
steps ExprInfer e = step_expr_infer
steps ExprBlock e = step_expr_block
steps ExprUnsafe e = step_expr_unsafe
steps ExprAsync e = step_expr_async
steps ExprConst e = step_expr_const
steps ExprTryBlock e = step_expr_try_block
steps ExprIf e = step_expr_if
steps ExprMatch e = step_expr_match
steps ExprLoop e = step_expr_loop
steps ExprWhile e = step_expr_while
steps ExprForLoop e = step_expr_for_loop
steps ExprContinue e = step_expr_continue
steps ExprTypedClosure e = step_expr_typed_closure
steps ExprStruct e = step_expr_struct
steps ExprCall e = step_expr_call
steps ExprMethodCall e = step_expr_method_call
steps ExprField e = step_expr_field
steps ExprAwait e = step_expr_await
steps ExprIndex e = step_expr_index
steps ExprTry e = step_expr_try
steps ExprCast e = step_expr_cast
steps ExprAttributed e = step_expr_attributed
steps ExprUnary e = step_expr_unary
steps ExprRawAddr e = step_expr_raw_addr
steps ExprReference e = step_expr_reference
steps ExprLet e = step_expr_let
steps ExprBreak e = step_expr_break
steps ExprReturn e = step_expr_return
steps ExprYield e = step_expr_yield
steps ExprClosure e = step_expr_closure
steps ExprRange e = step_expr_range
steps ExprRangeClosed e = step_expr_range_closed
steps ExprAssign e = step_expr_assign
steps ExprOr e = step_expr_or
steps ExprAnd e = step_expr_and
steps ExprCompare e = step_expr_compare
steps ExprBitOr e = step_expr_bit_or
steps ExprBitXor e = step_expr_bit_xor
steps ExprBitAnd e = step_expr_bit_and
steps ExprShift e = step_expr_shift
steps ExprSum e = step_expr_sum
steps ExprProduct e = step_expr_product
steps FieldValues e = step_field_values
steps AFieldValue e = step_a_field_value
steps FieldValue e = step_field_value
steps Arms e = step_arms
steps Arm e = step_arm
steps ClosureParam e = step_closure_param
steps _ e = let f : false ≡ true = e in cc f

pub laws : (k : Kind) → has_step k ≡ true → KindLaw k
unfolding has_step held passed place_of table
laws (Path InModule) e = simple_kind (Path InModule) refl (λ x. tt) (λ x. refl) (λ x. refl) (λ q. refl) (λ q. refl)
    refl
laws (Path InExpression) e = simple_kind (Path InExpression) refl (λ x. tt) (λ x. refl) (λ x. refl) (λ q. refl)
    (λ q. refl) refl
laws (Path InType) e = simple_kind (Path InType) refl (λ x. tt) (λ x. refl) (λ x. refl) (λ q. refl) (λ q. refl) refl
laws (Path AtType) e = simple_kind (Path AtType) refl (λ x. tt) (λ x. refl) (λ x. refl) (λ q. refl) (λ q. refl) refl
laws (Segments InModule) e = simple_kind (Segments InModule) refl (λ x. tt) (λ x. refl) (λ x. refl) (λ q. refl)
    (λ q. refl) refl
laws (Segments InExpression) e = law_segments_in_expression
laws (Segments InType) e = simple_kind (Segments InType) refl (λ x. tt) (λ x. refl) (λ x. refl) (λ q. refl)
    (λ q. refl) refl
laws (Segments AtType) e = simple_kind (Segments AtType) refl (λ x. tt) (λ x. refl) (λ x. refl) (λ q. refl)
    (λ q. refl) refl
laws (Segment InModule) e = simple_kind (Segment InModule) refl (λ x. tt) (λ x. refl) (λ x. refl) (λ q. refl)
    (λ q. refl) refl
laws (Segment InExpression) e = law_segment_in_expression
laws (Segment InType) e = simple_kind (Segment InType) refl (λ x. tt) (λ x. refl) (λ x. refl) (λ q. refl) (λ q. refl)
    refl
laws (Segment AtType) e = simple_kind (Segment AtType) refl (λ x. tt) (λ x. refl) (λ x. refl) (λ q. refl) (λ q. refl)
    refl
laws (QualifiedPath InModule) e = simple_kind (QualifiedPath InModule) refl (λ x. tt) (λ x. refl) (λ x. refl)
    (λ q. refl) (λ q. refl) refl
laws (QualifiedPath InExpression) e = simple_kind (QualifiedPath InExpression) refl (λ x. tt) (λ x. refl) (λ x. refl)
    (λ q. refl) (λ q. refl) refl
laws (QualifiedPath InType) e = simple_kind (QualifiedPath InType) refl (λ x. tt) (λ x. refl) (λ x. refl) (λ q. refl)
    (λ q. refl) refl
laws (QualifiedPath AtType) e = simple_kind (QualifiedPath AtType) refl (λ x. tt) (λ x. refl) (λ x. refl) (λ q. refl)
    (λ q. refl) refl
laws (AnyPath InModule) e = simple_kind (AnyPath InModule) refl (λ x. tt) (λ x. refl) (λ x. refl) (λ q. refl)
    (λ q. refl) refl
laws (AnyPath InExpression) e = simple_kind (AnyPath InExpression) refl (λ x. tt) (λ x. refl) (λ x. refl) (λ q. refl)
    (λ q. refl) refl
laws (AnyPath InType) e = simple_kind (AnyPath InType) refl (λ x. tt) (λ x. refl) (λ x. refl) (λ q. refl) (λ q. refl)
    refl
laws (AnyPath AtType) e = simple_kind (AnyPath AtType) refl (λ x. tt) (λ x. refl) (λ x. refl) (λ q. refl) (λ q. refl)
    refl
laws Arguments e = law_arguments
laws AnArgument e = law_an_argument
laws ParenthesizedArguments e = simple_kind ParenthesizedArguments refl (λ x. tt) (λ x. refl) (λ x. refl) (λ q. refl)
    (λ q. refl) refl
laws AMacro e = simple_kind AMacro refl (λ x. tt) (λ x. refl) (λ x. refl) (λ q. refl) (λ q. refl) refl
laws Delimited e = simple_kind Delimited refl (λ x. tt) (λ x. refl) (λ x. refl) (λ q. refl) (λ q. refl) refl
laws Member e = law_member
laws Index e = law_index
laws (AType WithPlus) e = simple_kind (AType WithPlus) refl (λ x. tt) (λ x. refl) (λ x. refl) (λ q. refl) (λ q. refl)
    refl
laws (AType WithoutPlus) e = simple_kind (AType WithoutPlus) refl (λ x. tt) (λ x. refl) (λ x. refl) (λ q. refl)
    (λ q. refl) refl
laws (DynType WithPlus) e = law_dyn
laws (DynType WithoutPlus) e = law_dyn_alone
laws (ImplType WithPlus) e = law_impl
laws (ImplType WithoutPlus) e = law_impl_alone
laws (ReturnType WithPlus) e = simple_kind (ReturnType WithPlus) refl (λ x. tt) (λ x. refl) (λ x. refl) (λ q. refl)
    (λ q. refl) refl
laws (ReturnType WithoutPlus) e = simple_kind (ReturnType WithoutPlus) refl (λ x. tt) (λ x. refl) (λ x. refl)
    (λ q. refl) (λ q. refl) refl
laws TupleType e = simple_kind TupleType refl (λ x. tt) (λ x. refl) (λ x. refl) (λ q. refl) (λ q. refl) refl
laws NeverType e = simple_kind NeverType refl (λ x. tt) (λ x. refl) (λ x. refl) (λ q. refl) (λ q. refl) refl
laws ReferenceType e = simple_kind ReferenceType refl (λ x. tt) (λ x. refl) (λ x. refl) (λ q. refl) (λ q. refl) refl
laws PointerType e = simple_kind PointerType refl (λ x. tt) (λ x. refl) (λ x. refl) (λ q. refl) (λ q. refl) refl
laws BracketType e = simple_kind BracketType refl (λ x. tt) (λ x. refl) (λ x. refl) (λ q. refl) (λ q. refl) refl
laws InferType e = simple_kind InferType refl (λ x. tt) (λ x. refl) (λ x. refl) (λ q. refl) (λ q. refl) refl
laws FnPtrType e = simple_kind FnPtrType refl (λ x. tt) (λ x. refl) (λ x. refl) (λ q. refl) (λ q. refl) refl
laws FnPtrArg e = simple_kind FnPtrArg refl (λ x. tt) (λ x. refl) (λ x. refl) (λ q. refl) (λ q. refl) refl
laws SomeBounds e = law_some_bounds
laws Bounds e = simple_kind Bounds refl (λ x. tt) (λ x. refl) (λ x. refl) (λ q. refl) (λ q. refl) refl
laws Bound e = simple_kind Bound refl (λ x. tt) (λ x. refl) (λ x. refl) (λ q. refl) (λ q. refl) refl
laws TraitPath e = simple_kind TraitPath refl (λ x. tt) (λ x. refl) (λ x. refl) (λ q. refl) (λ q. refl) refl
laws BoundLifetimes e = simple_kind BoundLifetimes refl (λ x. tt) (λ x. refl) (λ x. refl) (λ q. refl) (λ q. refl) refl
laws Lifetimes e = simple_kind Lifetimes refl (λ x. tt) (λ x. refl) (λ x. refl) (λ q. refl) (λ q. refl) refl
laws Abi e = simple_kind Abi refl (λ x. tt) (λ x. refl) (λ x. refl) (λ q. refl) (λ q. refl) refl
laws Pattern e = law_pattern
laws SeveralPatterns e = law_several
laws OnePattern e = law_one_pattern
laws IdentPattern e = simple_kind IdentPattern refl (λ x. tt) (λ x. refl) (λ x. refl) (λ q. refl) (λ q. refl) refl
laws WildPattern e = simple_kind WildPattern refl (λ x. tt) (λ x. refl) (λ x. refl) (λ q. refl) (λ q. refl) refl
laws RangeToPattern e = simple_kind RangeToPattern refl (λ x. tt) (λ x. refl) (λ x. refl) (λ q. refl) (λ q. refl) refl
laws RestPattern e = simple_kind RestPattern refl (λ x. tt) (λ x. refl) (λ x. refl) (λ q. refl) (λ q. refl) refl
laws TuplePattern e = simple_kind TuplePattern refl (λ x. tt) (λ x. refl) (λ x. refl) (λ q. refl) (λ q. refl) refl
laws SlicePattern e = simple_kind SlicePattern refl (λ x. tt) (λ x. refl) (λ x. refl) (λ q. refl) (λ q. refl) refl
laws ReferencePattern e = law_reference_pattern
laws LiteralPattern e = simple_kind LiteralPattern refl (λ x. tt) (λ x. refl) (λ x. refl) (λ q. refl) (λ q. refl) refl
laws PathPattern e = simple_kind PathPattern refl (λ x. tt) (λ x. refl) (λ x. refl) (λ q. refl) (λ q. refl) refl
laws RangeEnd e = simple_kind RangeEnd refl (λ x. tt) (λ x. refl) (λ x. refl) (λ q. refl) (λ q. refl) refl
laws RangeBound e = simple_kind RangeBound refl (λ x. tt) (λ x. refl) (λ x. refl) (λ q. refl) (λ q. refl) refl
laws FieldPatterns e = law_field_patterns
laws FieldPattern e = simple_kind FieldPattern refl (λ x. tt) (λ x. refl) (λ x. refl) (λ q. refl) (λ q. refl) refl
laws OuterAttributes e = law_outer
laws OuterAttribute e = simple_kind OuterAttribute refl (λ x. tt) (λ x. refl) (λ x. refl) (λ q. refl) (λ q. refl) refl
laws InnerAttributes e = law_inner
laws InnerAttribute e = simple_kind InnerAttribute refl (λ x. tt) (λ x. refl) (λ x. refl) (λ q. refl) (λ q. refl) refl
laws Meta e = law_meta
laws Generics e = law_generics
laws ImplGenerics e = simple_kind ImplGenerics refl (λ x. tt) (λ x. refl) (λ x. refl) (λ q. refl) (λ q. refl) refl
laws GenericParams e = law_generic_params
laws GenericParam e = simple_kind GenericParam refl (λ x. tt) (λ x. refl) (λ x. refl) (λ q. refl) (λ q. refl) refl
laws LifetimeParam e = simple_kind LifetimeParam refl (λ x. tt) (λ x. refl) (λ x. refl) (λ q. refl) (λ q. refl) refl
laws LifetimeColon e = law_lifetime_colon
laws ConstParam e = law_const_param
laws TypeParam e = simple_kind TypeParam refl (λ x. tt) (λ x. refl) (λ x. refl) (λ q. refl) (λ q. refl) refl
laws BoundsColon e = law_bounds_colon
laws Where e = law_where
laws WhereClause e = simple_kind WhereClause refl (λ x. tt) (λ x. refl) (λ x. refl) (λ q. refl) (λ q. refl) refl
laws WherePredicate e = law_where_predicate
laws Visibility e = simple_kind Visibility refl (λ x. tt) (λ x. refl) (λ x. refl) (λ q. refl) (λ q. refl) refl
laws NamedFields e = simple_kind NamedFields refl (λ x. tt) (λ x. refl) (λ x. refl) (λ q. refl) (λ q. refl) refl
laws UnnamedFields e = simple_kind UnnamedFields refl (λ x. tt) (λ x. refl) (λ x. refl) (λ q. refl) (λ q. refl) refl
laws NamedField e = simple_kind NamedField refl (λ x. tt) (λ x. refl) (λ x. refl) (λ q. refl) (λ q. refl) refl
laws UnnamedField e = law_unnamed_field
laws Variant e = law_variant
laws AStruct e = simple_kind AStruct refl (λ x. tt) (λ x. refl) (λ x. refl) (λ q. refl) (λ q. refl) refl
laws AnEnum e = simple_kind AnEnum refl (λ x. tt) (λ x. refl) (λ x. refl) (λ q. refl) (λ q. refl) refl
laws AUnion e = simple_kind AUnion refl (λ x. tt) (λ x. refl) (λ x. refl) (λ q. refl) (λ q. refl) refl
laws AStatic e = simple_kind AStatic refl (λ x. tt) (λ x. refl) (λ x. refl) (λ q. refl) (λ q. refl) refl
laws AConst e = law_const
laws AnExternCrate e = simple_kind AnExternCrate refl (λ x. tt) (λ x. refl) (λ x. refl) (λ q. refl) (λ q. refl) refl
laws AUse e = simple_kind AUse refl (λ x. tt) (λ x. refl) (λ x. refl) (λ q. refl) (λ q. refl) refl
laws UseTop e = simple_kind UseTop refl (λ x. tt) (λ x. refl) (λ x. refl) (λ q. refl) (λ q. refl) refl
laws UseTree e = simple_kind UseTree refl (λ x. tt) (λ x. refl) (λ x. refl) (λ q. refl) (λ q. refl) refl
laws UseBranch e = simple_kind UseBranch refl (λ x. tt) (λ x. refl) (λ x. refl) (λ q. refl) (λ q. refl) refl
laws UseRooted e = simple_kind UseRooted refl (λ x. tt) (λ x. refl) (λ x. refl) (λ q. refl) (λ q. refl) refl
laws Parameters e = law_parameters
laws Parameter e = law_parameter
laws FnArg e = law_fn_arg
laws Receiver e = simple_kind Receiver refl (λ x. tt) (λ x. refl) (λ x. refl) (λ q. refl) (λ q. refl) refl
laws (Signature InFile) e = simple_kind (Signature InFile) refl (λ x. tt) (λ x. refl) (λ x. refl) (λ q. refl)
    (λ q. refl) refl
laws (Signature InForeign) e = simple_kind (Signature InForeign) refl (λ x. tt) (λ x. refl) (λ x. refl) (λ q. refl)
    (λ q. refl) refl
laws (Signature InTrait) e = simple_kind (Signature InTrait) refl (λ x. tt) (λ x. refl) (λ x. refl) (λ q. refl)
    (λ q. refl) refl
laws (Signature InImpl) e = simple_kind (Signature InImpl) refl (λ x. tt) (λ x. refl) (λ x. refl) (λ q. refl)
    (λ q. refl) refl
laws (AFunction InFile) e = simple_kind (AFunction InFile) refl (λ x. tt) (λ x. refl) (λ x. refl) (λ q. refl)
    (λ q. refl) refl
laws (AFunction InForeign) e = simple_kind (AFunction InForeign) refl (λ x. tt) (λ x. refl) (λ x. refl) (λ q. refl)
    (λ q. refl) refl
laws (AFunction InTrait) e = simple_kind (AFunction InTrait) refl (λ x. tt) (λ x. refl) (λ x. refl) (λ q. refl)
    (λ q. refl) refl
laws (AFunction InImpl) e = simple_kind (AFunction InImpl) refl (λ x. tt) (λ x. refl) (λ x. refl) (λ q. refl)
    (λ q. refl) refl
laws (ATypeAlias InFile) e = law_type_in_file
laws (ATypeAlias InForeign) e = law_type_in_foreign
laws (ATypeAlias InTrait) e = law_trait_type
laws (ATypeAlias InImpl) e = law_impl_type
laws (ItemMacro InFile) e = simple_kind (ItemMacro InFile) refl (λ x. tt) (λ x. refl) (λ x. refl) (λ q. refl)
    (λ q. refl) refl
laws (ItemMacro InForeign) e = simple_kind (ItemMacro InForeign) refl (λ x. tt) (λ x. refl) (λ x. refl) (λ q. refl)
    (λ q. refl) refl
laws (ItemMacro InTrait) e = simple_kind (ItemMacro InTrait) refl (λ x. tt) (λ x. refl) (λ x. refl) (λ q. refl)
    (λ q. refl) refl
laws (ItemMacro InImpl) e = simple_kind (ItemMacro InImpl) refl (λ x. tt) (λ x. refl) (λ x. refl) (λ q. refl)
    (λ q. refl) refl
laws Label e = simple_kind Label refl (λ x. tt) (λ x. refl) (λ x. refl) (λ q. refl) (λ q. refl) refl
laws Body e = simple_kind Body refl (λ x. tt) (λ x. refl) (λ x. refl) (λ q. refl) (λ q. refl) refl
laws Block e = simple_kind Block refl (λ x. tt) (λ x. refl) (λ x. refl) (λ q. refl) (λ q. refl) refl
laws ALet e = law_a_let
laws Statements e = law_statements
laws Items e = law_items
laws ForeignItems e = law_foreign_items
laws TraitItems e = law_trait_items
laws ImplItems e = law_impl_items
laws AModule e = simple_kind AModule refl (λ x. tt) (λ x. refl) (λ x. refl) (λ q. refl) (λ q. refl) refl
laws AForeignModule e = simple_kind AForeignModule refl (λ x. tt) (λ x. refl) (λ x. refl) (λ q. refl) (λ q. refl) refl
laws AMacroDefinition e = simple_kind AMacroDefinition refl (λ x. tt) (λ x. refl) (λ x. refl) (λ q. refl) (λ q. refl)
    refl
laws ATrait e = law_trait
laws AConstTrait e = simple_kind AConstTrait refl (λ x. tt) (λ x. refl) (λ x. refl) (λ q. refl) (λ q. refl) refl
laws ARestrictedTrait e = law_restricted_trait
laws AnImpl e = law_an_impl
laws AnItem e = law_an_item
laws AForeignItem e = law_a_foreign_item
laws ATraitItem e = law_a_trait_item
laws AnImplItem e = law_an_impl_item
laws AFile e = simple_kind AFile refl (λ x. tt) (λ x. refl) (λ x. refl) (λ q. refl) (λ q. refl) refl
laws ExprLit e = simple_kind ExprLit refl (λ x. tt) (λ x. refl) (λ x. refl) (λ q. refl) (λ q. refl) refl
laws ExprPath e = simple_kind ExprPath refl (λ x. tt) (λ x. refl) (λ x. refl) (λ q. refl) (λ q. refl) refl
laws ExprMacro e = simple_kind ExprMacro refl (λ x. tt) (λ x. refl) (λ x. refl) (λ q. refl) (λ q. refl) refl
laws ExprParen e = simple_kind ExprParen refl (λ x. tt) (λ x. refl) (λ x. refl) (λ q. refl) (λ q. refl) refl
laws ExprArray e = simple_kind ExprArray refl (λ x. tt) (λ x. refl) (λ x. refl) (λ q. refl) (λ q. refl) refl
laws ExprRepeat e = simple_kind ExprRepeat refl (λ x. tt) (λ x. refl) (λ x. refl) (λ q. refl) (λ q. refl) refl
laws ExprGroup e = simple_kind ExprGroup refl (λ x. tt) (λ x. refl) (λ x. refl) (λ q. refl) (λ q. refl) refl
laws ExprInfer e = simple_kind ExprInfer refl (λ x. tt) (λ x. refl) (λ x. refl) (λ q. refl) (λ q. refl) refl
laws ExprBlock e = simple_kind ExprBlock refl (λ x. tt) (λ x. refl) (λ x. refl) (λ q. refl) (λ q. refl) refl
laws ExprUnsafe e = simple_kind ExprUnsafe refl (λ x. tt) (λ x. refl) (λ x. refl) (λ q. refl) (λ q. refl) refl
laws ExprAsync e = simple_kind ExprAsync refl (λ x. tt) (λ x. refl) (λ x. refl) (λ q. refl) (λ q. refl) refl
laws ExprConst e = simple_kind ExprConst refl (λ x. tt) (λ x. refl) (λ x. refl) (λ q. refl) (λ q. refl) refl
laws ExprTryBlock e = simple_kind ExprTryBlock refl (λ x. tt) (λ x. refl) (λ x. refl) (λ q. refl) (λ q. refl) refl
laws ExprIf e = simple_kind ExprIf refl (λ x. tt) (λ x. refl) (λ x. refl) (λ q. refl) (λ q. refl) refl
laws ExprMatch e = simple_kind ExprMatch refl (λ x. tt) (λ x. refl) (λ x. refl) (λ q. refl) (λ q. refl) refl
laws ExprLoop e = simple_kind ExprLoop refl (λ x. tt) (λ x. refl) (λ x. refl) (λ q. refl) (λ q. refl) refl
laws ExprWhile e = simple_kind ExprWhile refl (λ x. tt) (λ x. refl) (λ x. refl) (λ q. refl) (λ q. refl) refl
laws ExprForLoop e = simple_kind ExprForLoop refl (λ x. tt) (λ x. refl) (λ x. refl) (λ q. refl) (λ q. refl) refl
laws ExprContinue e = simple_kind ExprContinue refl (λ x. tt) (λ x. refl) (λ x. refl) (λ q. refl) (λ q. refl) refl
laws ExprTypedClosure e = simple_kind ExprTypedClosure refl (λ x. tt) (λ x. refl) (λ x. refl) (λ q. refl) (λ q. refl)
    refl
laws ExprStruct e = simple_kind ExprStruct refl (λ x. tt) (λ x. refl) (λ x. refl) (λ q. refl) (λ q. refl) refl
laws ExprCall e = simple_kind ExprCall refl (λ x. tt) (λ x. refl) (λ x. refl) (λ q. refl) (λ q. refl) refl
laws ExprMethodCall e = law_expr_method_call
laws ExprField e = law_expr_field
laws ExprAwait e = law_expr_await
laws ExprIndex e = simple_kind ExprIndex refl (λ x. tt) (λ x. refl) (λ x. refl) (λ q. refl) (λ q. refl) refl
laws ExprTry e = simple_kind ExprTry refl (λ x. tt) (λ x. refl) (λ x. refl) (λ q. refl) (λ q. refl) refl
laws ExprCast e = simple_kind ExprCast refl (λ x. tt) (λ x. refl) (λ x. refl) (λ q. refl) (λ q. refl) refl
laws ExprAttributed e = simple_kind ExprAttributed refl (λ x. tt) (λ x. refl) (λ x. refl) (λ q. refl) (λ q. refl) refl
laws ExprUnary e = simple_kind ExprUnary refl (λ x. tt) (λ x. refl) (λ x. refl) (λ q. refl) (λ q. refl) refl
laws ExprRawAddr e = simple_kind ExprRawAddr refl (λ x. tt) (λ x. refl) (λ x. refl) (λ q. refl) (λ q. refl) refl
laws ExprReference e = simple_kind ExprReference refl (λ x. tt) (λ x. refl) (λ x. refl) (λ q. refl) (λ q. refl) refl
laws ExprLet e = simple_kind ExprLet refl (λ x. tt) (λ x. refl) (λ x. refl) (λ q. refl) (λ q. refl) refl
laws ExprBreak e = simple_kind ExprBreak refl (λ x. tt) (λ x. refl) (λ x. refl) (λ q. refl) (λ q. refl) refl
laws ExprReturn e = simple_kind ExprReturn refl (λ x. tt) (λ x. refl) (λ x. refl) (λ q. refl) (λ q. refl) refl
laws ExprYield e = simple_kind ExprYield refl (λ x. tt) (λ x. refl) (λ x. refl) (λ q. refl) (λ q. refl) refl
laws ExprClosure e = simple_kind ExprClosure refl (λ x. tt) (λ x. refl) (λ x. refl) (λ q. refl) (λ q. refl) refl
laws ExprRange e = simple_kind ExprRange refl (λ x. tt) (λ x. refl) (λ x. refl) (λ q. refl) (λ q. refl) refl
laws ExprRangeClosed e = simple_kind ExprRangeClosed refl (λ x. tt) (λ x. refl) (λ x. refl) (λ q. refl) (λ q. refl)
    refl
laws ExprAssign e = simple_kind ExprAssign refl (λ x. tt) (λ x. refl) (λ x. refl) (λ q. refl) (λ q. refl) refl
laws ExprOr e = simple_kind ExprOr refl (λ x. tt) (λ x. refl) (λ x. refl) (λ q. refl) (λ q. refl) refl
laws ExprAnd e = simple_kind ExprAnd refl (λ x. tt) (λ x. refl) (λ x. refl) (λ q. refl) (λ q. refl) refl
laws ExprCompare e = simple_kind ExprCompare refl (λ x. tt) (λ x. refl) (λ x. refl) (λ q. refl) (λ q. refl) refl
laws ExprBitOr e = simple_kind ExprBitOr refl (λ x. tt) (λ x. refl) (λ x. refl) (λ q. refl) (λ q. refl) refl
laws ExprBitXor e = simple_kind ExprBitXor refl (λ x. tt) (λ x. refl) (λ x. refl) (λ q. refl) (λ q. refl) refl
laws ExprBitAnd e = simple_kind ExprBitAnd refl (λ x. tt) (λ x. refl) (λ x. refl) (λ q. refl) (λ q. refl) refl
laws ExprShift e = simple_kind ExprShift refl (λ x. tt) (λ x. refl) (λ x. refl) (λ q. refl) (λ q. refl) refl
laws ExprSum e = simple_kind ExprSum refl (λ x. tt) (λ x. refl) (λ x. refl) (λ q. refl) (λ q. refl) refl
laws ExprProduct e = simple_kind ExprProduct refl (λ x. tt) (λ x. refl) (λ x. refl) (λ q. refl) (λ q. refl) refl
laws FieldValues e = law_field_values
laws AFieldValue e = simple_kind AFieldValue refl (λ x. tt) (λ x. refl) (λ x. refl) (λ q. refl) (λ q. refl) refl
laws FieldValue e = simple_kind FieldValue refl (λ x. tt) (λ x. refl) (λ x. refl) (λ q. refl) (λ q. refl) refl
laws Arms e = law_arms
laws Arm e = law_arm
laws ClosureParam e = simple_kind ClosureParam refl (λ x. tt) (λ x. refl) (λ x. refl) (λ q. refl) (λ q. refl) refl
laws _ e = let f : false ≡ true = e in cc f
