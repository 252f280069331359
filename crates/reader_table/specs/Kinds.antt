-- What the kinds, places, positions and names of the code are in the written grammar.
use Rattle.syn_grammar.specs.Kind as k
use Rattle.reader_table.specs.declared.kind.Style.{Style}
use Rattle.reader_table.specs.declared.kind.Style.TheVariants as styles
use Rattle.reader_table.specs.declared.kind.Plus.{Plus}
use Rattle.reader_table.specs.declared.kind.Plus.TheVariants as pluss
use Rattle.reader_table.specs.declared.kind.Position.{Position}
use Rattle.reader_table.specs.declared.kind.Position.TheVariants as positions
use Rattle.reader_table.specs.declared.kind.Place.{Place}
use Rattle.reader_table.specs.declared.kind.Place.TheVariants as places
use Rattle.reader_table.specs.declared.kind.Kind.{Kind}
use Rattle.reader_table.specs.declared.kind.Kind.TheVariants as kinds

abbrev pub style_of : Style → k.Style
style_of styles.InModule = k.InModule
style_of styles.InExpression = k.InExpression
style_of styles.InType = k.InType
style_of styles.AtType = k.AtType

abbrev pub plus_of : Plus → k.Plus
plus_of pluss.WithPlus = k.WithPlus
plus_of pluss.WithoutPlus = k.WithoutPlus

abbrev pub position_of : Position → k.Position
position_of positions.Plain = k.Plain
position_of positions.InCondition = k.InCondition
position_of positions.InArm = k.InArm
position_of positions.InStatement = k.InStatement

abbrev pub place_of : Place → k.Place
place_of places.InFile = k.InFile
place_of places.InForeign = k.InForeign
place_of places.InTrait = k.InTrait
place_of places.InImpl = k.InImpl

abbrev pub kind_of : Kind → k.Kind
kind_of (kinds.Path p) = k.Path (style_of p)
kind_of (kinds.Segments p) = k.Segments (style_of p)
kind_of (kinds.Segment p) = k.Segment (style_of p)
kind_of (kinds.QualifiedPath p) = k.QualifiedPath (style_of p)
kind_of (kinds.AnyPath p) = k.AnyPath (style_of p)
kind_of kinds.Arguments = k.Arguments
kind_of kinds.AnArgument = k.AnArgument
kind_of kinds.ParenthesizedArguments = k.ParenthesizedArguments
kind_of kinds.AMacro = k.AMacro
kind_of kinds.Delimited = k.Delimited
kind_of kinds.Member = k.Member
kind_of kinds.Index = k.Index
kind_of (kinds.AType p) = k.AType (plus_of p)
kind_of (kinds.DynType p) = k.DynType (plus_of p)
kind_of (kinds.ImplType p) = k.ImplType (plus_of p)
kind_of (kinds.ReturnType p) = k.ReturnType (plus_of p)
kind_of kinds.TupleType = k.TupleType
kind_of kinds.NeverType = k.NeverType
kind_of kinds.ReferenceType = k.ReferenceType
kind_of kinds.PointerType = k.PointerType
kind_of kinds.BracketType = k.BracketType
kind_of kinds.InferType = k.InferType
kind_of kinds.FnPtrType = k.FnPtrType
kind_of kinds.FnPtrArg = k.FnPtrArg
kind_of kinds.Bounds = k.Bounds
kind_of kinds.SomeBounds = k.SomeBounds
kind_of kinds.Bound = k.Bound
kind_of kinds.TraitPath = k.TraitPath
kind_of kinds.BoundLifetimes = k.BoundLifetimes
kind_of kinds.Lifetimes = k.Lifetimes
kind_of kinds.Abi = k.Abi
kind_of kinds.Pattern = k.Pattern
kind_of kinds.SeveralPatterns = k.SeveralPatterns
kind_of kinds.OnePattern = k.OnePattern
kind_of kinds.IdentPattern = k.IdentPattern
kind_of kinds.WildPattern = k.WildPattern
kind_of kinds.RangeToPattern = k.RangeToPattern
kind_of kinds.RestPattern = k.RestPattern
kind_of kinds.TuplePattern = k.TuplePattern
kind_of kinds.SlicePattern = k.SlicePattern
kind_of kinds.ReferencePattern = k.ReferencePattern
kind_of kinds.LiteralPattern = k.LiteralPattern
kind_of kinds.PathPattern = k.PathPattern
kind_of kinds.RangeEnd = k.RangeEnd
kind_of kinds.RangeBound = k.RangeBound
kind_of kinds.FieldPatterns = k.FieldPatterns
kind_of kinds.FieldPattern = k.FieldPattern
kind_of kinds.OuterAttributes = k.OuterAttributes
kind_of kinds.OuterAttribute = k.OuterAttribute
kind_of kinds.InnerAttributes = k.InnerAttributes
kind_of kinds.InnerAttribute = k.InnerAttribute
kind_of kinds.Meta = k.Meta
kind_of kinds.Generics = k.Generics
kind_of kinds.ImplGenerics = k.ImplGenerics
kind_of kinds.GenericParams = k.GenericParams
kind_of kinds.GenericParam = k.GenericParam
kind_of kinds.LifetimeParam = k.LifetimeParam
kind_of kinds.LifetimeColon = k.LifetimeColon
kind_of kinds.ConstParam = k.ConstParam
kind_of kinds.TypeParam = k.TypeParam
kind_of kinds.BoundsColon = k.BoundsColon
kind_of kinds.Where = k.Where
kind_of kinds.WhereClause = k.WhereClause
kind_of kinds.WherePredicate = k.WherePredicate
kind_of (kinds.Expression p) = k.Expression (position_of p)
kind_of kinds.ExprLit = k.ExprLit
kind_of kinds.ExprPath = k.ExprPath
kind_of kinds.ExprMacro = k.ExprMacro
kind_of kinds.ExprParen = k.ExprParen
kind_of kinds.ExprArray = k.ExprArray
kind_of kinds.ExprRepeat = k.ExprRepeat
kind_of kinds.ExprGroup = k.ExprGroup
kind_of kinds.ExprInfer = k.ExprInfer
kind_of kinds.ExprBlock = k.ExprBlock
kind_of kinds.ExprUnsafe = k.ExprUnsafe
kind_of kinds.ExprAsync = k.ExprAsync
kind_of kinds.ExprConst = k.ExprConst
kind_of kinds.ExprTryBlock = k.ExprTryBlock
kind_of kinds.ExprIf = k.ExprIf
kind_of kinds.ExprMatch = k.ExprMatch
kind_of kinds.ExprLoop = k.ExprLoop
kind_of kinds.ExprWhile = k.ExprWhile
kind_of kinds.ExprForLoop = k.ExprForLoop
kind_of kinds.ExprContinue = k.ExprContinue
kind_of kinds.ExprTypedClosure = k.ExprTypedClosure
kind_of kinds.ExprStruct = k.ExprStruct
kind_of kinds.ExprCall = k.ExprCall
kind_of kinds.ExprMethodCall = k.ExprMethodCall
kind_of kinds.ExprField = k.ExprField
kind_of kinds.ExprAwait = k.ExprAwait
kind_of kinds.ExprIndex = k.ExprIndex
kind_of kinds.ExprTry = k.ExprTry
kind_of kinds.ExprCast = k.ExprCast
kind_of kinds.ExprAttributed = k.ExprAttributed
kind_of kinds.ExprUnary = k.ExprUnary
kind_of kinds.ExprRawAddr = k.ExprRawAddr
kind_of kinds.ExprReference = k.ExprReference
kind_of kinds.ExprLet = k.ExprLet
kind_of kinds.ExprBreak = k.ExprBreak
kind_of kinds.ExprReturn = k.ExprReturn
kind_of kinds.ExprYield = k.ExprYield
kind_of kinds.ExprClosure = k.ExprClosure
kind_of kinds.ExprRange = k.ExprRange
kind_of kinds.ExprRangeClosed = k.ExprRangeClosed
kind_of kinds.ExprAssign = k.ExprAssign
kind_of kinds.ExprOr = k.ExprOr
kind_of kinds.ExprAnd = k.ExprAnd
kind_of kinds.ExprCompare = k.ExprCompare
kind_of kinds.ExprBitOr = k.ExprBitOr
kind_of kinds.ExprBitXor = k.ExprBitXor
kind_of kinds.ExprBitAnd = k.ExprBitAnd
kind_of kinds.ExprShift = k.ExprShift
kind_of kinds.ExprSum = k.ExprSum
kind_of kinds.ExprProduct = k.ExprProduct
kind_of kinds.FieldValues = k.FieldValues
kind_of kinds.AFieldValue = k.AFieldValue
kind_of kinds.FieldValue = k.FieldValue
kind_of kinds.Arms = k.Arms
kind_of kinds.Arm = k.Arm
kind_of kinds.ClosureParam = k.ClosureParam
kind_of kinds.Label = k.Label
kind_of kinds.Block = k.Block
kind_of kinds.Body = k.Body
kind_of kinds.Visibility = k.Visibility
kind_of kinds.NamedFields = k.NamedFields
kind_of kinds.UnnamedFields = k.UnnamedFields
kind_of kinds.NamedField = k.NamedField
kind_of kinds.UnnamedField = k.UnnamedField
kind_of kinds.Variant = k.Variant
kind_of kinds.AStruct = k.AStruct
kind_of kinds.AnEnum = k.AnEnum
kind_of kinds.AUnion = k.AUnion
kind_of kinds.AStatic = k.AStatic
kind_of kinds.AConst = k.AConst
kind_of kinds.AnExternCrate = k.AnExternCrate
kind_of kinds.AForeignModule = k.AForeignModule
kind_of kinds.AUse = k.AUse
kind_of kinds.UseTop = k.UseTop
kind_of kinds.UseTree = k.UseTree
kind_of kinds.UseBranch = k.UseBranch
kind_of kinds.UseRooted = k.UseRooted
kind_of kinds.AModule = k.AModule
kind_of kinds.ATrait = k.ATrait
kind_of kinds.AConstTrait = k.AConstTrait
kind_of kinds.ARestrictedTrait = k.ARestrictedTrait
kind_of kinds.AnImpl = k.AnImpl
kind_of kinds.AMacroDefinition = k.AMacroDefinition
kind_of kinds.Parameters = k.Parameters
kind_of kinds.Parameter = k.Parameter
kind_of kinds.FnArg = k.FnArg
kind_of kinds.Receiver = k.Receiver
kind_of (kinds.Signature p) = k.Signature (place_of p)
kind_of (kinds.AFunction p) = k.AFunction (place_of p)
kind_of (kinds.ATypeAlias p) = k.ATypeAlias (place_of p)
kind_of (kinds.ItemMacro p) = k.ItemMacro (place_of p)
kind_of kinds.AnItem = k.AnItem
kind_of kinds.AForeignItem = k.AForeignItem
kind_of kinds.ATraitItem = k.ATraitItem
kind_of kinds.AnImplItem = k.AnImplItem
kind_of kinds.Items = k.Items
kind_of kinds.ForeignItems = k.ForeignItems
kind_of kinds.TraitItems = k.TraitItems
kind_of kinds.ImplItems = k.ImplItems
kind_of kinds.ItemStruct = k.ItemStruct
kind_of kinds.ItemEnum = k.ItemEnum
kind_of kinds.ItemUnion = k.ItemUnion
kind_of kinds.ItemFn = k.ItemFn
kind_of kinds.ItemExternCrate = k.ItemExternCrate
kind_of kinds.ItemForeignMod = k.ItemForeignMod
kind_of kinds.ItemUse = k.ItemUse
kind_of kinds.ItemStatic = k.ItemStatic
kind_of kinds.ItemConst = k.ItemConst
kind_of kinds.ItemMod = k.ItemMod
kind_of kinds.ItemType = k.ItemType
kind_of kinds.ItemTrait = k.ItemTrait
kind_of kinds.ItemTraitAlias = k.ItemTraitAlias
kind_of kinds.ItemImpl = k.ItemImpl
kind_of kinds.DeriveInput = k.DeriveInput
kind_of (kinds.OneMacro p) = k.OneMacro (place_of p)
kind_of (kinds.OneFunction p) = k.OneFunction (place_of p)
kind_of (kinds.OneTypeAlias p) = k.OneTypeAlias (place_of p)
kind_of (kinds.OneConst p) = k.OneConst (place_of p)
kind_of kinds.ForeignItemStatic = k.ForeignItemStatic
kind_of kinds.Statements = k.Statements
kind_of kinds.AStatement = k.AStatement
kind_of kinds.OneStatement = k.OneStatement
kind_of kinds.ALet = k.ALet
kind_of kinds.AFile = k.AFile
