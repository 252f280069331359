-- No entry's marks are a quote or begin a comment, kind by kind. Written by tools/ranks.py.
use Rattle.std.proofs.Common.{◌≡◌, refl}
use Rattle.std.specs.Prelude.{true}
use Rattle.syn_grammar.specs.Kind.{Kind, InModule, InExpression, InType, AtType, WithPlus, WithoutPlus, Plain}
use Rattle.syn_grammar.specs.Kind.{InCondition, InArm, InStatement, InFile, InForeign, InTrait, InImpl, Path, Segments}
use Rattle.syn_grammar.specs.Kind.{Segment, QualifiedPath, AnyPath, Arguments, AnArgument, ParenthesizedArguments}
use Rattle.syn_grammar.specs.Kind.{AMacro, Delimited, Member, Index, AType, DynType, ImplType, ReturnType, TupleType}
use Rattle.syn_grammar.specs.Kind.{NeverType, ReferenceType, PointerType, BracketType, InferType, FnPtrType, FnPtrArg}
use Rattle.syn_grammar.specs.Kind.{Bounds, SomeBounds, Bound, TraitPath, BoundLifetimes, Lifetimes, Abi, Pattern}
use Rattle.syn_grammar.specs.Kind.{SeveralPatterns, OnePattern, IdentPattern, WildPattern, RangeToPattern, RestPattern}
use Rattle.syn_grammar.specs.Kind.{TuplePattern, SlicePattern, ReferencePattern, LiteralPattern, PathPattern, RangeEnd}
use Rattle.syn_grammar.specs.Kind.{RangeBound, FieldPatterns, FieldPattern, OuterAttributes, OuterAttribute}
use Rattle.syn_grammar.specs.Kind.{InnerAttributes, InnerAttribute, Meta, Generics, ImplGenerics, GenericParams}
use Rattle.syn_grammar.specs.Kind.{GenericParam, LifetimeParam, LifetimeColon, ConstParam, TypeParam, BoundsColon}
use Rattle.syn_grammar.specs.Kind.{Where, WhereClause, WherePredicate, Expression, ExprLit, ExprPath, ExprMacro}
use Rattle.syn_grammar.specs.Kind.{ExprParen, ExprArray, ExprRepeat, ExprGroup, ExprInfer, ExprBlock, ExprUnsafe}
use Rattle.syn_grammar.specs.Kind.{ExprAsync, ExprConst, ExprTryBlock, ExprIf, ExprMatch, ExprLoop, ExprWhile}
use Rattle.syn_grammar.specs.Kind.{ExprForLoop, ExprContinue, ExprTypedClosure, ExprStruct, ExprCall, ExprMethodCall}
use Rattle.syn_grammar.specs.Kind.{ExprField, ExprAwait, ExprIndex, ExprTry, ExprCast, ExprAttributed, ExprUnary}
use Rattle.syn_grammar.specs.Kind.{ExprRawAddr, ExprReference, ExprLet, ExprBreak, ExprReturn, ExprYield, ExprClosure}
use Rattle.syn_grammar.specs.Kind.{ExprRange, ExprRangeClosed, ExprAssign, ExprOr, ExprAnd, ExprCompare, ExprBitOr}
use Rattle.syn_grammar.specs.Kind.{ExprBitXor, ExprBitAnd, ExprShift, ExprSum, ExprProduct, FieldValues, AFieldValue}
use Rattle.syn_grammar.specs.Kind.{FieldValue, Arms, Arm, ClosureParam, Label, Block, Body, Visibility, NamedFields}
use Rattle.syn_grammar.specs.Kind.{UnnamedFields, NamedField, UnnamedField, Variant, AStruct, AnEnum, AUnion, AStatic}
use Rattle.syn_grammar.specs.Kind.{AConst, AnExternCrate, AForeignModule, AUse, UseTop, UseTree, UseBranch, UseRooted}
use Rattle.syn_grammar.specs.Kind.{AModule, ATrait, AConstTrait, ARestrictedTrait, AnImpl, AMacroDefinition, Parameters}
use Rattle.syn_grammar.specs.Kind.{Parameter, FnArg, Receiver, Signature, AFunction, ATypeAlias, ItemMacro, AnItem}
use Rattle.syn_grammar.specs.Kind.{AForeignItem, ATraitItem, AnImplItem, Items, ForeignItems, TraitItems, ImplItems}
use Rattle.syn_grammar.specs.Kind.{ItemStruct, ItemEnum, ItemUnion, ItemFn, ItemExternCrate, ItemForeignMod, ItemUse}
use Rattle.syn_grammar.specs.Kind.{ItemStatic, ItemConst, ItemMod, ItemType, ItemTrait, ItemTraitAlias, ItemImpl}
use Rattle.syn_grammar.specs.Kind.{DeriveInput, OneMacro, OneFunction, OneTypeAlias, OneConst, ForeignItemStatic}
use Rattle.syn_grammar.specs.Kind.{Statements, AStatement, OneStatement, ALet, AFile}
use Rattle.syn_grammar.specs.Table.{table}
use Rattle.syn_grammar.specs.Calm.{calm_entry}

pub all_calm : (k : Kind) → calm_entry (table k) ≡ true
unfolding table
all_calm (Path InModule) = refl
all_calm (Path InExpression) = refl
all_calm (Path InType) = refl
all_calm (Path AtType) = refl
all_calm (Segments InModule) = refl
all_calm (Segments InExpression) = refl
all_calm (Segments InType) = refl
all_calm (Segments AtType) = refl
all_calm (Segment InModule) = refl
all_calm (Segment InExpression) = refl
all_calm (Segment InType) = refl
all_calm (Segment AtType) = refl
all_calm (QualifiedPath InModule) = refl
all_calm (QualifiedPath InExpression) = refl
all_calm (QualifiedPath InType) = refl
all_calm (QualifiedPath AtType) = refl
all_calm (AnyPath InModule) = refl
all_calm (AnyPath InExpression) = refl
all_calm (AnyPath InType) = refl
all_calm (AnyPath AtType) = refl
all_calm Arguments = refl
all_calm AnArgument = refl
all_calm ParenthesizedArguments = refl
all_calm AMacro = refl
all_calm Delimited = refl
all_calm Member = refl
all_calm Index = refl
all_calm (AType WithPlus) = refl
all_calm (AType WithoutPlus) = refl
all_calm (DynType WithPlus) = refl
all_calm (DynType WithoutPlus) = refl
all_calm (ImplType WithPlus) = refl
all_calm (ImplType WithoutPlus) = refl
all_calm (ReturnType WithPlus) = refl
all_calm (ReturnType WithoutPlus) = refl
all_calm TupleType = refl
all_calm NeverType = refl
all_calm ReferenceType = refl
all_calm PointerType = refl
all_calm BracketType = refl
all_calm InferType = refl
all_calm FnPtrType = refl
all_calm FnPtrArg = refl
all_calm Bounds = refl
all_calm SomeBounds = refl
all_calm Bound = refl
all_calm TraitPath = refl
all_calm BoundLifetimes = refl
all_calm Lifetimes = refl
all_calm Abi = refl
all_calm Pattern = refl
all_calm SeveralPatterns = refl
all_calm OnePattern = refl
all_calm IdentPattern = refl
all_calm WildPattern = refl
all_calm RangeToPattern = refl
all_calm RestPattern = refl
all_calm TuplePattern = refl
all_calm SlicePattern = refl
all_calm ReferencePattern = refl
all_calm LiteralPattern = refl
all_calm PathPattern = refl
all_calm RangeEnd = refl
all_calm RangeBound = refl
all_calm FieldPatterns = refl
all_calm FieldPattern = refl
all_calm OuterAttributes = refl
all_calm OuterAttribute = refl
all_calm InnerAttributes = refl
all_calm InnerAttribute = refl
all_calm Meta = refl
all_calm Generics = refl
all_calm ImplGenerics = refl
all_calm GenericParams = refl
all_calm GenericParam = refl
all_calm LifetimeParam = refl
all_calm LifetimeColon = refl
all_calm ConstParam = refl
all_calm TypeParam = refl
all_calm BoundsColon = refl
all_calm Where = refl
all_calm WhereClause = refl
all_calm WherePredicate = refl
all_calm (Expression Plain) = refl
all_calm (Expression InCondition) = refl
all_calm (Expression InArm) = refl
all_calm (Expression InStatement) = refl
all_calm ExprLit = refl
all_calm ExprPath = refl
all_calm ExprMacro = refl
all_calm ExprParen = refl
all_calm ExprArray = refl
all_calm ExprRepeat = refl
all_calm ExprGroup = refl
all_calm ExprInfer = refl
all_calm ExprBlock = refl
all_calm ExprUnsafe = refl
all_calm ExprAsync = refl
all_calm ExprConst = refl
all_calm ExprTryBlock = refl
all_calm ExprIf = refl
all_calm ExprMatch = refl
all_calm ExprLoop = refl
all_calm ExprWhile = refl
all_calm ExprForLoop = refl
all_calm ExprContinue = refl
all_calm ExprTypedClosure = refl
all_calm ExprStruct = refl
all_calm ExprCall = refl
all_calm ExprMethodCall = refl
all_calm ExprField = refl
all_calm ExprAwait = refl
all_calm ExprIndex = refl
all_calm ExprTry = refl
all_calm ExprCast = refl
all_calm ExprAttributed = refl
all_calm ExprUnary = refl
all_calm ExprRawAddr = refl
all_calm ExprReference = refl
all_calm ExprLet = refl
all_calm ExprBreak = refl
all_calm ExprReturn = refl
all_calm ExprYield = refl
all_calm ExprClosure = refl
all_calm ExprRange = refl
all_calm ExprRangeClosed = refl
all_calm ExprAssign = refl
all_calm ExprOr = refl
all_calm ExprAnd = refl
all_calm ExprCompare = refl
all_calm ExprBitOr = refl
all_calm ExprBitXor = refl
all_calm ExprBitAnd = refl
all_calm ExprShift = refl
all_calm ExprSum = refl
all_calm ExprProduct = refl
all_calm FieldValues = refl
all_calm AFieldValue = refl
all_calm FieldValue = refl
all_calm Arms = refl
all_calm Arm = refl
all_calm ClosureParam = refl
all_calm Label = refl
all_calm Block = refl
all_calm Body = refl
all_calm Visibility = refl
all_calm NamedFields = refl
all_calm UnnamedFields = refl
all_calm NamedField = refl
all_calm UnnamedField = refl
all_calm Variant = refl
all_calm AStruct = refl
all_calm AnEnum = refl
all_calm AUnion = refl
all_calm AStatic = refl
all_calm AConst = refl
all_calm AnExternCrate = refl
all_calm AForeignModule = refl
all_calm AUse = refl
all_calm UseTop = refl
all_calm UseTree = refl
all_calm UseBranch = refl
all_calm UseRooted = refl
all_calm AModule = refl
all_calm ATrait = refl
all_calm AConstTrait = refl
all_calm ARestrictedTrait = refl
all_calm AnImpl = refl
all_calm AMacroDefinition = refl
all_calm Parameters = refl
all_calm Parameter = refl
all_calm FnArg = refl
all_calm Receiver = refl
all_calm (Signature InFile) = refl
all_calm (Signature InForeign) = refl
all_calm (Signature InTrait) = refl
all_calm (Signature InImpl) = refl
all_calm (AFunction InFile) = refl
all_calm (AFunction InForeign) = refl
all_calm (AFunction InTrait) = refl
all_calm (AFunction InImpl) = refl
all_calm (ATypeAlias InFile) = refl
all_calm (ATypeAlias InForeign) = refl
all_calm (ATypeAlias InTrait) = refl
all_calm (ATypeAlias InImpl) = refl
all_calm (ItemMacro InFile) = refl
all_calm (ItemMacro InForeign) = refl
all_calm (ItemMacro InTrait) = refl
all_calm (ItemMacro InImpl) = refl
all_calm AnItem = refl
all_calm AForeignItem = refl
all_calm ATraitItem = refl
all_calm AnImplItem = refl
all_calm Items = refl
all_calm ForeignItems = refl
all_calm TraitItems = refl
all_calm ImplItems = refl
all_calm ItemStruct = refl
all_calm ItemEnum = refl
all_calm ItemUnion = refl
all_calm ItemFn = refl
all_calm ItemExternCrate = refl
all_calm ItemForeignMod = refl
all_calm ItemUse = refl
all_calm ItemStatic = refl
all_calm ItemConst = refl
all_calm ItemMod = refl
all_calm ItemType = refl
all_calm ItemTrait = refl
all_calm ItemTraitAlias = refl
all_calm ItemImpl = refl
all_calm DeriveInput = refl
all_calm (OneMacro InFile) = refl
all_calm (OneMacro InForeign) = refl
all_calm (OneMacro InTrait) = refl
all_calm (OneMacro InImpl) = refl
all_calm (OneFunction InFile) = refl
all_calm (OneFunction InForeign) = refl
all_calm (OneFunction InTrait) = refl
all_calm (OneFunction InImpl) = refl
all_calm (OneTypeAlias InFile) = refl
all_calm (OneTypeAlias InForeign) = refl
all_calm (OneTypeAlias InTrait) = refl
all_calm (OneTypeAlias InImpl) = refl
all_calm (OneConst InFile) = refl
all_calm (OneConst InForeign) = refl
all_calm (OneConst InTrait) = refl
all_calm (OneConst InImpl) = refl
all_calm ForeignItemStatic = refl
all_calm Statements = refl
all_calm AStatement = refl
all_calm OneStatement = refl
all_calm ALet = refl
all_calm AFile = refl
