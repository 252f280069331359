-- Kinds and names of parts of one number are one.
use Rattle.std.specs.Prelude.{◌≡◌, List, [], ◌∷◌, Some, refl, slice_get}
use Rattle.std.proofs.Common.{ap, sym, ◌∙◌}
use Rattle.syn_grammar.specs.Kind as k
use Rattle.syn_grammar.specs.Kind.{Kind}
use Rattle.syn_grammar.specs.Name as n
use Rattle.syn_grammar.specs.Name.{Part, number}
use Rattle.reader_table.specs.Numbers.{kind_number}

-- all kinds, each at its number
kinds : List Kind
kinds =
    k.Path k.InModule ∷ k.Path k.InExpression ∷ k.Path k.InType ∷ k.Path k.AtType ∷ k.Segments k.InModule ∷
    k.Segments k.InExpression ∷ k.Segments k.InType ∷ k.Segments k.AtType ∷ k.Segment k.InModule ∷
    k.Segment k.InExpression ∷ k.Segment k.InType ∷ k.Segment k.AtType ∷ k.QualifiedPath k.InModule ∷
    k.QualifiedPath k.InExpression ∷ k.QualifiedPath k.InType ∷ k.QualifiedPath k.AtType ∷ k.AnyPath k.InModule ∷
    k.AnyPath k.InExpression ∷ k.AnyPath k.InType ∷ k.AnyPath k.AtType ∷ k.Arguments ∷ k.AnArgument ∷
    k.ParenthesizedArguments ∷ k.AMacro ∷ k.Delimited ∷ k.Member ∷ k.Index ∷ k.AType k.WithPlus ∷
    k.AType k.WithoutPlus ∷ k.DynType k.WithPlus ∷ k.DynType k.WithoutPlus ∷ k.ImplType k.WithPlus ∷
    k.ImplType k.WithoutPlus ∷ k.ReturnType k.WithPlus ∷ k.ReturnType k.WithoutPlus ∷ k.TupleType ∷ k.NeverType ∷
    k.ReferenceType ∷ k.PointerType ∷ k.BracketType ∷ k.InferType ∷ k.FnPtrType ∷ k.FnPtrArg ∷ k.Bounds ∷
    k.SomeBounds ∷ k.Bound ∷ k.TraitPath ∷ k.BoundLifetimes ∷ k.Lifetimes ∷ k.Abi ∷ k.Pattern ∷ k.SeveralPatterns ∷
    k.OnePattern ∷ k.IdentPattern ∷ k.WildPattern ∷ k.RangeToPattern ∷ k.RestPattern ∷ k.TuplePattern ∷
    k.SlicePattern ∷ k.ReferencePattern ∷ k.LiteralPattern ∷ k.PathPattern ∷ k.RangeEnd ∷ k.RangeBound ∷
    k.FieldPatterns ∷ k.FieldPattern ∷ k.OuterAttributes ∷ k.OuterAttribute ∷ k.InnerAttributes ∷ k.InnerAttribute ∷
    k.Meta ∷ k.Generics ∷ k.ImplGenerics ∷ k.GenericParams ∷ k.GenericParam ∷ k.LifetimeParam ∷ k.LifetimeColon ∷
    k.ConstParam ∷ k.TypeParam ∷ k.BoundsColon ∷ k.Where ∷ k.WhereClause ∷ k.WherePredicate ∷ k.Expression k.Plain ∷
    k.Expression k.InCondition ∷ k.Expression k.InArm ∷ k.Expression k.InStatement ∷ k.ExprLit ∷ k.ExprPath ∷
    k.ExprMacro ∷ k.ExprParen ∷ k.ExprArray ∷ k.ExprRepeat ∷ k.ExprGroup ∷ k.ExprInfer ∷ k.ExprBlock ∷ k.ExprUnsafe ∷
    k.ExprAsync ∷ k.ExprConst ∷ k.ExprTryBlock ∷ k.ExprIf ∷ k.ExprMatch ∷ k.ExprLoop ∷ k.ExprWhile ∷ k.ExprForLoop ∷
    k.ExprContinue ∷ k.ExprTypedClosure ∷ k.ExprStruct ∷ k.ExprCall ∷ k.ExprMethodCall ∷ k.ExprField ∷ k.ExprAwait ∷
    k.ExprIndex ∷ k.ExprTry ∷ k.ExprCast ∷ k.ExprAttributed ∷ k.ExprUnary ∷ k.ExprRawAddr ∷ k.ExprReference ∷
    k.ExprLet ∷ k.ExprBreak ∷ k.ExprReturn ∷ k.ExprYield ∷ k.ExprClosure ∷ k.ExprRange ∷ k.ExprRangeClosed ∷
    k.ExprAssign ∷ k.ExprOr ∷ k.ExprAnd ∷ k.ExprCompare ∷ k.ExprBitOr ∷ k.ExprBitXor ∷ k.ExprBitAnd ∷ k.ExprShift ∷
    k.ExprSum ∷ k.ExprProduct ∷ k.FieldValues ∷ k.AFieldValue ∷ k.FieldValue ∷ k.Arms ∷ k.Arm ∷ k.ClosureParam ∷
    k.Label ∷ k.Block ∷ k.Body ∷ k.Visibility ∷ k.NamedFields ∷ k.UnnamedFields ∷ k.NamedField ∷ k.UnnamedField ∷
    k.Variant ∷ k.AStruct ∷ k.AnEnum ∷ k.AUnion ∷ k.AStatic ∷ k.AConst ∷ k.AnExternCrate ∷ k.AForeignModule ∷ k.AUse ∷
    k.UseTop ∷ k.UseTree ∷ k.UseBranch ∷ k.UseRooted ∷ k.AModule ∷ k.ATrait ∷ k.AConstTrait ∷ k.ARestrictedTrait ∷
    k.AnImpl ∷ k.AMacroDefinition ∷ k.Parameters ∷ k.Parameter ∷ k.FnArg ∷ k.Receiver ∷ k.Signature k.InFile ∷
    k.Signature k.InForeign ∷ k.Signature k.InTrait ∷ k.Signature k.InImpl ∷ k.AFunction k.InFile ∷
    k.AFunction k.InForeign ∷ k.AFunction k.InTrait ∷ k.AFunction k.InImpl ∷ k.ATypeAlias k.InFile ∷
    k.ATypeAlias k.InForeign ∷ k.ATypeAlias k.InTrait ∷ k.ATypeAlias k.InImpl ∷ k.ItemMacro k.InFile ∷
    k.ItemMacro k.InForeign ∷ k.ItemMacro k.InTrait ∷ k.ItemMacro k.InImpl ∷ k.AnItem ∷ k.AForeignItem ∷
    k.ATraitItem ∷ k.AnImplItem ∷ k.Items ∷ k.ForeignItems ∷ k.TraitItems ∷ k.ImplItems ∷ k.ItemStruct ∷ k.ItemEnum ∷
    k.ItemUnion ∷ k.ItemFn ∷ k.ItemExternCrate ∷ k.ItemForeignMod ∷ k.ItemUse ∷ k.ItemStatic ∷ k.ItemConst ∷
    k.ItemMod ∷ k.ItemType ∷ k.ItemTrait ∷ k.ItemTraitAlias ∷ k.ItemImpl ∷ k.DeriveInput ∷ k.OneMacro k.InFile ∷
    k.OneMacro k.InForeign ∷ k.OneMacro k.InTrait ∷ k.OneMacro k.InImpl ∷ k.OneFunction k.InFile ∷
    k.OneFunction k.InForeign ∷ k.OneFunction k.InTrait ∷ k.OneFunction k.InImpl ∷ k.OneTypeAlias k.InFile ∷
    k.OneTypeAlias k.InForeign ∷ k.OneTypeAlias k.InTrait ∷ k.OneTypeAlias k.InImpl ∷ k.OneConst k.InFile ∷
    k.OneConst k.InForeign ∷ k.OneConst k.InTrait ∷ k.OneConst k.InImpl ∷ k.ForeignItemStatic ∷ k.Statements ∷
    k.AStatement ∷ k.OneStatement ∷ k.ALet ∷ k.AFile ∷ []

kind_back : (i : Kind) → slice_get kinds (kind_number i) ≡ Some i
unfolding kinds
kind_back (k.Path k.InModule) = refl
kind_back (k.Segments k.InModule) = refl
kind_back (k.Segment k.InModule) = refl
kind_back (k.QualifiedPath k.InModule) = refl
kind_back (k.AnyPath k.InModule) = refl
kind_back (k.AType k.WithPlus) = refl
kind_back (k.DynType k.WithPlus) = refl
kind_back (k.ImplType k.WithPlus) = refl
kind_back (k.ReturnType k.WithPlus) = refl
kind_back (k.Expression k.Plain) = refl
kind_back (k.Signature k.InFile) = refl
kind_back (k.AFunction k.InFile) = refl
kind_back (k.ATypeAlias k.InFile) = refl
kind_back (k.ItemMacro k.InFile) = refl
kind_back (k.OneMacro k.InFile) = refl
kind_back (k.OneFunction k.InFile) = refl
kind_back (k.OneTypeAlias k.InFile) = refl
kind_back (k.OneConst k.InFile) = refl
kind_back i = refl

pub one_kind : (i j : Kind) → kind_number i ≡ kind_number j → i ≡ j
one_kind i j e = let f : Some i ≡ Some j = sym (kind_back i) ∙ ap (slice_get kinds) e ∙ kind_back j in cc

-- all names of parts, each at its number
parts : List Part
parts =
    n.the_name ∷ n.the_visibility ∷ n.the_pub ∷ n.the_item ∷ n.the_safety ∷ n.the_const ∷ n.the_default ∷ n.the_auto ∷
    n.the_generics ∷ n.the_parameters ∷ n.the_where ∷ n.the_clause ∷ n.the_bounds ∷ n.the_type ∷ n.the_value ∷
    n.the_body ∷ n.the_equals ∷ n.the_polarity ∷ n.the_first ∷ n.the_self ∷ n.the_path ∷ n.the_lifetime ∷
    n.the_arguments ∷ n.the_receiver ∷ n.the_unnamed ∷ n.the_pattern ∷ n.the_dots ∷ n.the_condition ∷ n.the_indices ∷
    n.the_base ∷ n.the_rest ∷ n.the_comma ∷ n.the_expression ∷ n.the_semicolon ∷ n.the_else ∷ n.the_label ∷
    n.the_attributes ∷ []

part_back : (m : Part) → slice_get parts (number m) ≡ Some m
unfolding parts
part_back n.the_name = refl
part_back m = refl

pub one_part : (m o : Part) → number m ≡ number o → m ≡ o
one_part m o e = let f : Some m ≡ Some o = sym (part_back m) ∙ ap (slice_get parts) e ∙ part_back o in cc
