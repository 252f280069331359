-- Each arm gives a row, and the row is evaluated. Written by tools/rows.py.
use Rattle.std.proofs.Common.{sym, ap}
use Rattle.syn_grammar.specs.Gram.{Gram}
use Rattle.syn_grammar.specs.Table.{table}
use Rattle.reader_table.specs.Kinds.{kind_of}
use Rattle.reader_table.specs.declared.kind.Kind.{Kind}
use Rattle.reader_table.proofs.entry.entry.Goals as goal

abbrev entry_of : Kind → Gram
entry_of k = table (kind_of k)

pub returns-in-Arguments : goal.returns-in-Arguments
unfolding table
returns-in-Arguments c = sym (ap entry_of c.in-Arguments.is)

pub returns-in-AnArgument : goal.returns-in-AnArgument
unfolding table
returns-in-AnArgument c = sym (ap entry_of c.in-AnArgument.is)

pub returns-in-ParenthesizedArguments : goal.returns-in-ParenthesizedArguments
unfolding table
returns-in-ParenthesizedArguments c = sym (ap entry_of c.in-ParenthesizedArguments.is)

pub returns-in-AMacro : goal.returns-in-AMacro
unfolding table
returns-in-AMacro c = sym (ap entry_of c.in-AMacro.is)

pub returns-in-Delimited : goal.returns-in-Delimited
unfolding table
returns-in-Delimited c = sym (ap entry_of c.in-Delimited.is)

pub returns-in-Member : goal.returns-in-Member
unfolding table
returns-in-Member c = sym (ap entry_of c.in-Member.is)

pub returns-in-Index : goal.returns-in-Index
unfolding table
returns-in-Index c = sym (ap entry_of c.in-Index.is)

pub returns-in-TupleType : goal.returns-in-TupleType
unfolding table
returns-in-TupleType c = sym (ap entry_of c.in-TupleType.is)

pub returns-in-NeverType : goal.returns-in-NeverType
unfolding table
returns-in-NeverType c = sym (ap entry_of c.in-NeverType.is)

pub returns-in-ReferenceType : goal.returns-in-ReferenceType
unfolding table
returns-in-ReferenceType c = sym (ap entry_of c.in-ReferenceType.is)

pub returns-in-PointerType : goal.returns-in-PointerType
unfolding table
returns-in-PointerType c = sym (ap entry_of c.in-PointerType.is)

pub returns-in-BracketType : goal.returns-in-BracketType
unfolding table
returns-in-BracketType c = sym (ap entry_of c.in-BracketType.is)

pub returns-in-InferType : goal.returns-in-InferType
unfolding table
returns-in-InferType c = sym (ap entry_of c.in-InferType.is)

pub returns-in-FnPtrType : goal.returns-in-FnPtrType
unfolding table
returns-in-FnPtrType c = sym (ap entry_of c.in-FnPtrType.is)

pub returns-in-FnPtrArg : goal.returns-in-FnPtrArg
unfolding table
returns-in-FnPtrArg c = sym (ap entry_of c.in-FnPtrArg.is)

pub returns-in-Bounds : goal.returns-in-Bounds
unfolding table
returns-in-Bounds c = sym (ap entry_of c.in-Bounds.is)

pub returns-in-SomeBounds : goal.returns-in-SomeBounds
unfolding table
returns-in-SomeBounds c = sym (ap entry_of c.in-SomeBounds.is)

pub returns-in-Bound : goal.returns-in-Bound
unfolding table
returns-in-Bound c = sym (ap entry_of c.in-Bound.is)

pub returns-in-TraitPath : goal.returns-in-TraitPath
unfolding table
returns-in-TraitPath c = sym (ap entry_of c.in-TraitPath.is)

pub returns-in-BoundLifetimes : goal.returns-in-BoundLifetimes
unfolding table
returns-in-BoundLifetimes c = sym (ap entry_of c.in-BoundLifetimes.is)

pub returns-in-Lifetimes : goal.returns-in-Lifetimes
unfolding table
returns-in-Lifetimes c = sym (ap entry_of c.in-Lifetimes.is)

pub returns-in-Abi : goal.returns-in-Abi
unfolding table
returns-in-Abi c = sym (ap entry_of c.in-Abi.is)

pub returns-in-Pattern : goal.returns-in-Pattern
unfolding table
returns-in-Pattern c = sym (ap entry_of c.in-Pattern.is)

pub returns-in-SeveralPatterns : goal.returns-in-SeveralPatterns
unfolding table
returns-in-SeveralPatterns c = sym (ap entry_of c.in-SeveralPatterns.is)

pub returns-in-OnePattern : goal.returns-in-OnePattern
unfolding table
returns-in-OnePattern c = sym (ap entry_of c.in-OnePattern.is)

pub returns-in-IdentPattern : goal.returns-in-IdentPattern
unfolding table
returns-in-IdentPattern c = sym (ap entry_of c.in-IdentPattern.is)

pub returns-in-WildPattern : goal.returns-in-WildPattern
unfolding table
returns-in-WildPattern c = sym (ap entry_of c.in-WildPattern.is)

pub returns-in-RangeToPattern : goal.returns-in-RangeToPattern
unfolding table
returns-in-RangeToPattern c = sym (ap entry_of c.in-RangeToPattern.is)

pub returns-in-RestPattern : goal.returns-in-RestPattern
unfolding table
returns-in-RestPattern c = sym (ap entry_of c.in-RestPattern.is)

pub returns-in-TuplePattern : goal.returns-in-TuplePattern
unfolding table
returns-in-TuplePattern c = sym (ap entry_of c.in-TuplePattern.is)

pub returns-in-SlicePattern : goal.returns-in-SlicePattern
unfolding table
returns-in-SlicePattern c = sym (ap entry_of c.in-SlicePattern.is)

pub returns-in-ReferencePattern : goal.returns-in-ReferencePattern
unfolding table
returns-in-ReferencePattern c = sym (ap entry_of c.in-ReferencePattern.is)

pub returns-in-LiteralPattern : goal.returns-in-LiteralPattern
unfolding table
returns-in-LiteralPattern c = sym (ap entry_of c.in-LiteralPattern.is)

pub returns-in-PathPattern : goal.returns-in-PathPattern
unfolding table
returns-in-PathPattern c = sym (ap entry_of c.in-PathPattern.is)

pub returns-in-RangeEnd : goal.returns-in-RangeEnd
unfolding table
returns-in-RangeEnd c = sym (ap entry_of c.in-RangeEnd.is)

pub returns-in-RangeBound : goal.returns-in-RangeBound
unfolding table
returns-in-RangeBound c = sym (ap entry_of c.in-RangeBound.is)

pub returns-in-FieldPatterns : goal.returns-in-FieldPatterns
unfolding table
returns-in-FieldPatterns c = sym (ap entry_of c.in-FieldPatterns.is)

pub returns-in-FieldPattern : goal.returns-in-FieldPattern
unfolding table
returns-in-FieldPattern c = sym (ap entry_of c.in-FieldPattern.is)

pub returns-in-OuterAttributes : goal.returns-in-OuterAttributes
unfolding table
returns-in-OuterAttributes c = sym (ap entry_of c.in-OuterAttributes.is)

pub returns-in-OuterAttribute : goal.returns-in-OuterAttribute
unfolding table
returns-in-OuterAttribute c = sym (ap entry_of c.in-OuterAttribute.is)

pub returns-in-InnerAttributes : goal.returns-in-InnerAttributes
unfolding table
returns-in-InnerAttributes c = sym (ap entry_of c.in-InnerAttributes.is)

pub returns-in-InnerAttribute : goal.returns-in-InnerAttribute
unfolding table
returns-in-InnerAttribute c = sym (ap entry_of c.in-InnerAttribute.is)

pub returns-in-Meta : goal.returns-in-Meta
unfolding table
returns-in-Meta c = sym (ap entry_of c.in-Meta.is)

pub returns-in-Generics : goal.returns-in-Generics
unfolding table
returns-in-Generics c = sym (ap entry_of c.in-Generics.is)

pub returns-in-ImplGenerics : goal.returns-in-ImplGenerics
unfolding table
returns-in-ImplGenerics c = sym (ap entry_of c.in-ImplGenerics.is)

pub returns-in-GenericParams : goal.returns-in-GenericParams
unfolding table
returns-in-GenericParams c = sym (ap entry_of c.in-GenericParams.is)

pub returns-in-GenericParam : goal.returns-in-GenericParam
unfolding table
returns-in-GenericParam c = sym (ap entry_of c.in-GenericParam.is)

pub returns-in-LifetimeParam : goal.returns-in-LifetimeParam
unfolding table
returns-in-LifetimeParam c = sym (ap entry_of c.in-LifetimeParam.is)

pub returns-in-LifetimeColon : goal.returns-in-LifetimeColon
unfolding table
returns-in-LifetimeColon c = sym (ap entry_of c.in-LifetimeColon.is)

pub returns-in-ConstParam : goal.returns-in-ConstParam
unfolding table
returns-in-ConstParam c = sym (ap entry_of c.in-ConstParam.is)

pub returns-in-TypeParam : goal.returns-in-TypeParam
unfolding table
returns-in-TypeParam c = sym (ap entry_of c.in-TypeParam.is)

pub returns-in-BoundsColon : goal.returns-in-BoundsColon
unfolding table
returns-in-BoundsColon c = sym (ap entry_of c.in-BoundsColon.is)

pub returns-in-Where : goal.returns-in-Where
unfolding table
returns-in-Where c = sym (ap entry_of c.in-Where.is)

pub returns-in-WhereClause : goal.returns-in-WhereClause
unfolding table
returns-in-WhereClause c = sym (ap entry_of c.in-WhereClause.is)

pub returns-in-WherePredicate : goal.returns-in-WherePredicate
unfolding table
returns-in-WherePredicate c = sym (ap entry_of c.in-WherePredicate.is)

pub returns-in-ExprLit : goal.returns-in-ExprLit
unfolding table
returns-in-ExprLit c = sym (ap entry_of c.in-ExprLit.is)

pub returns-in-ExprPath : goal.returns-in-ExprPath
unfolding table
returns-in-ExprPath c = sym (ap entry_of c.in-ExprPath.is)

pub returns-in-ExprMacro : goal.returns-in-ExprMacro
unfolding table
returns-in-ExprMacro c = sym (ap entry_of c.in-ExprMacro.is)

pub returns-in-ExprParen : goal.returns-in-ExprParen
unfolding table
returns-in-ExprParen c = sym (ap entry_of c.in-ExprParen.is)

pub returns-in-ExprArray : goal.returns-in-ExprArray
unfolding table
returns-in-ExprArray c = sym (ap entry_of c.in-ExprArray.is)

pub returns-in-ExprRepeat : goal.returns-in-ExprRepeat
unfolding table
returns-in-ExprRepeat c = sym (ap entry_of c.in-ExprRepeat.is)

pub returns-in-ExprGroup : goal.returns-in-ExprGroup
unfolding table
returns-in-ExprGroup c = sym (ap entry_of c.in-ExprGroup.is)

pub returns-in-ExprInfer : goal.returns-in-ExprInfer
unfolding table
returns-in-ExprInfer c = sym (ap entry_of c.in-ExprInfer.is)

pub returns-in-ExprBlock : goal.returns-in-ExprBlock
unfolding table
returns-in-ExprBlock c = sym (ap entry_of c.in-ExprBlock.is)

pub returns-in-ExprUnsafe : goal.returns-in-ExprUnsafe
unfolding table
returns-in-ExprUnsafe c = sym (ap entry_of c.in-ExprUnsafe.is)

pub returns-in-ExprAsync : goal.returns-in-ExprAsync
unfolding table
returns-in-ExprAsync c = sym (ap entry_of c.in-ExprAsync.is)

pub returns-in-ExprConst : goal.returns-in-ExprConst
unfolding table
returns-in-ExprConst c = sym (ap entry_of c.in-ExprConst.is)

pub returns-in-ExprTryBlock : goal.returns-in-ExprTryBlock
unfolding table
returns-in-ExprTryBlock c = sym (ap entry_of c.in-ExprTryBlock.is)

pub returns-in-ExprIf : goal.returns-in-ExprIf
unfolding table
returns-in-ExprIf c = sym (ap entry_of c.in-ExprIf.is)

pub returns-in-ExprMatch : goal.returns-in-ExprMatch
unfolding table
returns-in-ExprMatch c = sym (ap entry_of c.in-ExprMatch.is)

pub returns-in-ExprLoop : goal.returns-in-ExprLoop
unfolding table
returns-in-ExprLoop c = sym (ap entry_of c.in-ExprLoop.is)

pub returns-in-ExprWhile : goal.returns-in-ExprWhile
unfolding table
returns-in-ExprWhile c = sym (ap entry_of c.in-ExprWhile.is)

pub returns-in-ExprForLoop : goal.returns-in-ExprForLoop
unfolding table
returns-in-ExprForLoop c = sym (ap entry_of c.in-ExprForLoop.is)

pub returns-in-ExprContinue : goal.returns-in-ExprContinue
unfolding table
returns-in-ExprContinue c = sym (ap entry_of c.in-ExprContinue.is)

pub returns-in-ExprTypedClosure : goal.returns-in-ExprTypedClosure
unfolding table
returns-in-ExprTypedClosure c = sym (ap entry_of c.in-ExprTypedClosure.is)

pub returns-in-ExprStruct : goal.returns-in-ExprStruct
unfolding table
returns-in-ExprStruct c = sym (ap entry_of c.in-ExprStruct.is)

pub returns-in-ExprCall : goal.returns-in-ExprCall
unfolding table
returns-in-ExprCall c = sym (ap entry_of c.in-ExprCall.is)

pub returns-in-ExprMethodCall : goal.returns-in-ExprMethodCall
unfolding table
returns-in-ExprMethodCall c = sym (ap entry_of c.in-ExprMethodCall.is)

pub returns-in-ExprField : goal.returns-in-ExprField
unfolding table
returns-in-ExprField c = sym (ap entry_of c.in-ExprField.is)

pub returns-in-ExprAwait : goal.returns-in-ExprAwait
unfolding table
returns-in-ExprAwait c = sym (ap entry_of c.in-ExprAwait.is)

pub returns-in-ExprIndex : goal.returns-in-ExprIndex
unfolding table
returns-in-ExprIndex c = sym (ap entry_of c.in-ExprIndex.is)

pub returns-in-ExprTry : goal.returns-in-ExprTry
unfolding table
returns-in-ExprTry c = sym (ap entry_of c.in-ExprTry.is)

pub returns-in-ExprCast : goal.returns-in-ExprCast
unfolding table
returns-in-ExprCast c = sym (ap entry_of c.in-ExprCast.is)

pub returns-in-ExprAttributed : goal.returns-in-ExprAttributed
unfolding table
returns-in-ExprAttributed c = sym (ap entry_of c.in-ExprAttributed.is)

pub returns-in-ExprUnary : goal.returns-in-ExprUnary
unfolding table
returns-in-ExprUnary c = sym (ap entry_of c.in-ExprUnary.is)

pub returns-in-ExprRawAddr : goal.returns-in-ExprRawAddr
unfolding table
returns-in-ExprRawAddr c = sym (ap entry_of c.in-ExprRawAddr.is)

pub returns-in-ExprReference : goal.returns-in-ExprReference
unfolding table
returns-in-ExprReference c = sym (ap entry_of c.in-ExprReference.is)

pub returns-in-ExprLet : goal.returns-in-ExprLet
unfolding table
returns-in-ExprLet c = sym (ap entry_of c.in-ExprLet.is)

pub returns-in-ExprBreak : goal.returns-in-ExprBreak
unfolding table
returns-in-ExprBreak c = sym (ap entry_of c.in-ExprBreak.is)

pub returns-in-ExprReturn : goal.returns-in-ExprReturn
unfolding table
returns-in-ExprReturn c = sym (ap entry_of c.in-ExprReturn.is)

pub returns-in-ExprYield : goal.returns-in-ExprYield
unfolding table
returns-in-ExprYield c = sym (ap entry_of c.in-ExprYield.is)

pub returns-in-ExprClosure : goal.returns-in-ExprClosure
unfolding table
returns-in-ExprClosure c = sym (ap entry_of c.in-ExprClosure.is)

pub returns-in-ExprRange : goal.returns-in-ExprRange
unfolding table
returns-in-ExprRange c = sym (ap entry_of c.in-ExprRange.is)

pub returns-in-ExprRangeClosed : goal.returns-in-ExprRangeClosed
unfolding table
returns-in-ExprRangeClosed c = sym (ap entry_of c.in-ExprRangeClosed.is)

pub returns-in-ExprAssign : goal.returns-in-ExprAssign
unfolding table
returns-in-ExprAssign c = sym (ap entry_of c.in-ExprAssign.is)

pub returns-in-ExprOr : goal.returns-in-ExprOr
unfolding table
returns-in-ExprOr c = sym (ap entry_of c.in-ExprOr.is)

pub returns-in-ExprAnd : goal.returns-in-ExprAnd
unfolding table
returns-in-ExprAnd c = sym (ap entry_of c.in-ExprAnd.is)

pub returns-in-ExprCompare : goal.returns-in-ExprCompare
unfolding table
returns-in-ExprCompare c = sym (ap entry_of c.in-ExprCompare.is)

pub returns-in-ExprBitOr : goal.returns-in-ExprBitOr
unfolding table
returns-in-ExprBitOr c = sym (ap entry_of c.in-ExprBitOr.is)

pub returns-in-ExprBitXor : goal.returns-in-ExprBitXor
unfolding table
returns-in-ExprBitXor c = sym (ap entry_of c.in-ExprBitXor.is)

pub returns-in-ExprBitAnd : goal.returns-in-ExprBitAnd
unfolding table
returns-in-ExprBitAnd c = sym (ap entry_of c.in-ExprBitAnd.is)

pub returns-in-ExprShift : goal.returns-in-ExprShift
unfolding table
returns-in-ExprShift c = sym (ap entry_of c.in-ExprShift.is)

pub returns-in-ExprSum : goal.returns-in-ExprSum
unfolding table
returns-in-ExprSum c = sym (ap entry_of c.in-ExprSum.is)

pub returns-in-ExprProduct : goal.returns-in-ExprProduct
unfolding table
returns-in-ExprProduct c = sym (ap entry_of c.in-ExprProduct.is)

pub returns-in-FieldValues : goal.returns-in-FieldValues
unfolding table
returns-in-FieldValues c = sym (ap entry_of c.in-FieldValues.is)

pub returns-in-AFieldValue : goal.returns-in-AFieldValue
unfolding table
returns-in-AFieldValue c = sym (ap entry_of c.in-AFieldValue.is)

pub returns-in-FieldValue : goal.returns-in-FieldValue
unfolding table
returns-in-FieldValue c = sym (ap entry_of c.in-FieldValue.is)

pub returns-in-Arms : goal.returns-in-Arms
unfolding table
returns-in-Arms c = sym (ap entry_of c.in-Arms.is)

pub returns-in-Arm : goal.returns-in-Arm
unfolding table
returns-in-Arm c = sym (ap entry_of c.in-Arm.is)

pub returns-in-ClosureParam : goal.returns-in-ClosureParam
unfolding table
returns-in-ClosureParam c = sym (ap entry_of c.in-ClosureParam.is)

pub returns-in-Label : goal.returns-in-Label
unfolding table
returns-in-Label c = sym (ap entry_of c.in-Label.is)

pub returns-in-Block : goal.returns-in-Block
unfolding table
returns-in-Block c = sym (ap entry_of c.in-Block.is)

pub returns-in-Body : goal.returns-in-Body
unfolding table
returns-in-Body c = sym (ap entry_of c.in-Body.is)

pub returns-in-Visibility : goal.returns-in-Visibility
unfolding table
returns-in-Visibility c = sym (ap entry_of c.in-Visibility.is)

pub returns-in-NamedFields : goal.returns-in-NamedFields
unfolding table
returns-in-NamedFields c = sym (ap entry_of c.in-NamedFields.is)

pub returns-in-UnnamedFields : goal.returns-in-UnnamedFields
unfolding table
returns-in-UnnamedFields c = sym (ap entry_of c.in-UnnamedFields.is)

pub returns-in-NamedField : goal.returns-in-NamedField
unfolding table
returns-in-NamedField c = sym (ap entry_of c.in-NamedField.is)

pub returns-in-UnnamedField : goal.returns-in-UnnamedField
unfolding table
returns-in-UnnamedField c = sym (ap entry_of c.in-UnnamedField.is)

pub returns-in-Variant : goal.returns-in-Variant
unfolding table
returns-in-Variant c = sym (ap entry_of c.in-Variant.is)

pub returns-in-AStruct : goal.returns-in-AStruct
unfolding table
returns-in-AStruct c = sym (ap entry_of c.in-AStruct.is)

pub returns-in-AnEnum : goal.returns-in-AnEnum
unfolding table
returns-in-AnEnum c = sym (ap entry_of c.in-AnEnum.is)

pub returns-in-AUnion : goal.returns-in-AUnion
unfolding table
returns-in-AUnion c = sym (ap entry_of c.in-AUnion.is)

pub returns-in-AStatic : goal.returns-in-AStatic
unfolding table
returns-in-AStatic c = sym (ap entry_of c.in-AStatic.is)

pub returns-in-AConst : goal.returns-in-AConst
unfolding table
returns-in-AConst c = sym (ap entry_of c.in-AConst.is)

pub returns-in-AnExternCrate : goal.returns-in-AnExternCrate
unfolding table
returns-in-AnExternCrate c = sym (ap entry_of c.in-AnExternCrate.is)

pub returns-in-AForeignModule : goal.returns-in-AForeignModule
unfolding table
returns-in-AForeignModule c = sym (ap entry_of c.in-AForeignModule.is)

pub returns-in-AUse : goal.returns-in-AUse
unfolding table
returns-in-AUse c = sym (ap entry_of c.in-AUse.is)

pub returns-in-UseTop : goal.returns-in-UseTop
unfolding table
returns-in-UseTop c = sym (ap entry_of c.in-UseTop.is)

pub returns-in-UseTree : goal.returns-in-UseTree
unfolding table
returns-in-UseTree c = sym (ap entry_of c.in-UseTree.is)

pub returns-in-UseBranch : goal.returns-in-UseBranch
unfolding table
returns-in-UseBranch c = sym (ap entry_of c.in-UseBranch.is)

pub returns-in-UseRooted : goal.returns-in-UseRooted
unfolding table
returns-in-UseRooted c = sym (ap entry_of c.in-UseRooted.is)

pub returns-in-AModule : goal.returns-in-AModule
unfolding table
returns-in-AModule c = sym (ap entry_of c.in-AModule.is)

pub returns-in-ATrait : goal.returns-in-ATrait
unfolding table
returns-in-ATrait c = sym (ap entry_of c.in-ATrait.is)

pub returns-in-AConstTrait : goal.returns-in-AConstTrait
unfolding table
returns-in-AConstTrait c = sym (ap entry_of c.in-AConstTrait.is)

pub returns-in-ARestrictedTrait : goal.returns-in-ARestrictedTrait
unfolding table
returns-in-ARestrictedTrait c = sym (ap entry_of c.in-ARestrictedTrait.is)

pub returns-in-AnImpl : goal.returns-in-AnImpl
unfolding table
returns-in-AnImpl c = sym (ap entry_of c.in-AnImpl.is)

pub returns-in-AMacroDefinition : goal.returns-in-AMacroDefinition
unfolding table
returns-in-AMacroDefinition c = sym (ap entry_of c.in-AMacroDefinition.is)

pub returns-in-Parameters : goal.returns-in-Parameters
unfolding table
returns-in-Parameters c = sym (ap entry_of c.in-Parameters.is)

pub returns-in-Parameter : goal.returns-in-Parameter
unfolding table
returns-in-Parameter c = sym (ap entry_of c.in-Parameter.is)

pub returns-in-FnArg : goal.returns-in-FnArg
unfolding table
returns-in-FnArg c = sym (ap entry_of c.in-FnArg.is)

pub returns-in-Receiver : goal.returns-in-Receiver
unfolding table
returns-in-Receiver c = sym (ap entry_of c.in-Receiver.is)

pub returns-in-AnItem : goal.returns-in-AnItem
unfolding table
returns-in-AnItem c = sym (ap entry_of c.in-AnItem.is)

pub returns-in-AForeignItem : goal.returns-in-AForeignItem
unfolding table
returns-in-AForeignItem c = sym (ap entry_of c.in-AForeignItem.is)

pub returns-in-ATraitItem : goal.returns-in-ATraitItem
unfolding table
returns-in-ATraitItem c = sym (ap entry_of c.in-ATraitItem.is)

pub returns-in-AnImplItem : goal.returns-in-AnImplItem
unfolding table
returns-in-AnImplItem c = sym (ap entry_of c.in-AnImplItem.is)

pub returns-in-Items : goal.returns-in-Items
unfolding table
returns-in-Items c = sym (ap entry_of c.in-Items.is)

pub returns-in-ForeignItems : goal.returns-in-ForeignItems
unfolding table
returns-in-ForeignItems c = sym (ap entry_of c.in-ForeignItems.is)

pub returns-in-TraitItems : goal.returns-in-TraitItems
unfolding table
returns-in-TraitItems c = sym (ap entry_of c.in-TraitItems.is)

pub returns-in-ImplItems : goal.returns-in-ImplItems
unfolding table
returns-in-ImplItems c = sym (ap entry_of c.in-ImplItems.is)

pub returns-in-ItemStruct : goal.returns-in-ItemStruct
unfolding table
returns-in-ItemStruct c = sym (ap entry_of c.in-ItemStruct.is)

pub returns-in-ItemEnum : goal.returns-in-ItemEnum
unfolding table
returns-in-ItemEnum c = sym (ap entry_of c.in-ItemEnum.is)

pub returns-in-ItemUnion : goal.returns-in-ItemUnion
unfolding table
returns-in-ItemUnion c = sym (ap entry_of c.in-ItemUnion.is)

pub returns-in-ItemFn : goal.returns-in-ItemFn
unfolding table
returns-in-ItemFn c = sym (ap entry_of c.in-ItemFn.is)

pub returns-in-ItemExternCrate : goal.returns-in-ItemExternCrate
unfolding table
returns-in-ItemExternCrate c = sym (ap entry_of c.in-ItemExternCrate.is)

pub returns-in-ItemForeignMod : goal.returns-in-ItemForeignMod
unfolding table
returns-in-ItemForeignMod c = sym (ap entry_of c.in-ItemForeignMod.is)

pub returns-in-ItemUse : goal.returns-in-ItemUse
unfolding table
returns-in-ItemUse c = sym (ap entry_of c.in-ItemUse.is)

pub returns-in-ItemStatic : goal.returns-in-ItemStatic
unfolding table
returns-in-ItemStatic c = sym (ap entry_of c.in-ItemStatic.is)

pub returns-in-ItemConst : goal.returns-in-ItemConst
unfolding table
returns-in-ItemConst c = sym (ap entry_of c.in-ItemConst.is)

pub returns-in-ItemMod : goal.returns-in-ItemMod
unfolding table
returns-in-ItemMod c = sym (ap entry_of c.in-ItemMod.is)

pub returns-in-ItemType : goal.returns-in-ItemType
unfolding table
returns-in-ItemType c = sym (ap entry_of c.in-ItemType.is)

pub returns-in-ItemTrait : goal.returns-in-ItemTrait
unfolding table
returns-in-ItemTrait c = sym (ap entry_of c.in-ItemTrait.is)

pub returns-in-ItemTraitAlias : goal.returns-in-ItemTraitAlias
unfolding table
returns-in-ItemTraitAlias c = sym (ap entry_of c.in-ItemTraitAlias.is)

pub returns-in-ItemImpl : goal.returns-in-ItemImpl
unfolding table
returns-in-ItemImpl c = sym (ap entry_of c.in-ItemImpl.is)

pub returns-in-DeriveInput : goal.returns-in-DeriveInput
unfolding table
returns-in-DeriveInput c = sym (ap entry_of c.in-DeriveInput.is)

pub returns-in-ForeignItemStatic : goal.returns-in-ForeignItemStatic
unfolding table
returns-in-ForeignItemStatic c = sym (ap entry_of c.in-ForeignItemStatic.is)

pub returns-in-Statements : goal.returns-in-Statements
unfolding table
returns-in-Statements c = sym (ap entry_of c.in-Statements.is)

pub returns-in-AStatement : goal.returns-in-AStatement
unfolding table
returns-in-AStatement c = sym (ap entry_of c.in-AStatement.is)

pub returns-in-OneStatement : goal.returns-in-OneStatement
unfolding table
returns-in-OneStatement c = sym (ap entry_of c.in-OneStatement.is)

pub returns-in-ALet : goal.returns-in-ALet
unfolding table
returns-in-ALet c = sym (ap entry_of c.in-ALet.is)

pub returns-in-AFile : goal.returns-in-AFile
unfolding table
returns-in-AFile c = sym (ap entry_of c.in-AFile.is)
