-- The kinds of which it is proved that their normal forms are read back, and the trees that hold no others.
use Rattle.std.specs.Prelude.{ℕ, Bool, true, false, ◌&&◌, ◌||◌, not, codes, List, [], ◌∷◌}
use Rattle.proc_macro2.specs.Token.{Token, Punct}
use Rattle.syn_grammar.specs.Kind.{Kind, Expression, AConst, AConstTrait, AFieldValue, AFile, AForeignItem}
use Rattle.syn_grammar.specs.Kind.{AForeignModule, AFunction, ALet, AMacro, AMacroDefinition, AModule}
use Rattle.syn_grammar.specs.Kind.{ARestrictedTrait, AStatement, AStatic, AStruct, ATrait, ATraitItem, AType}
use Rattle.syn_grammar.specs.Kind.{ATypeAlias, AUnion, AUse, Abi, AnArgument, AnEnum, AnExternCrate, AnImpl}
use Rattle.syn_grammar.specs.Kind.{AnImplItem, AnItem, AnyPath, Arguments, Arm, Arms, AtType, Block, Body, Bound}
use Rattle.syn_grammar.specs.Kind.{BoundLifetimes, Bounds, BoundsColon, BracketType, ClosureParam, ConstParam}
use Rattle.syn_grammar.specs.Kind.{Delimited, DynType, ExprAnd, ExprArray, ExprAssign, ExprAsync, ExprAttributed}
use Rattle.syn_grammar.specs.Kind.{ExprAwait, ExprBitAnd, ExprBitOr, ExprBitXor, ExprBlock, ExprBreak, ExprCall}
use Rattle.syn_grammar.specs.Kind.{ExprCast, ExprClosure, ExprCompare, ExprConst, ExprContinue, ExprField}
use Rattle.syn_grammar.specs.Kind.{ExprForLoop, ExprGroup, ExprIf, ExprIndex, ExprInfer, ExprLet, ExprLit}
use Rattle.syn_grammar.specs.Kind.{ExprLoop, ExprMacro, ExprMatch, ExprMethodCall, ExprOr, ExprParen, ExprPath}
use Rattle.syn_grammar.specs.Kind.{ExprProduct, ExprRange, ExprRangeClosed, ExprRawAddr, ExprReference}
use Rattle.syn_grammar.specs.Kind.{ExprRepeat, ExprReturn, ExprShift, ExprStruct, ExprSum, ExprTry, ExprTryBlock}
use Rattle.syn_grammar.specs.Kind.{ExprTypedClosure, ExprUnary, ExprUnsafe, ExprWhile, ExprYield, FieldPattern}
use Rattle.syn_grammar.specs.Kind.{FieldPatterns, FieldValue, FieldValues, FnArg, FnPtrArg, FnPtrType}
use Rattle.syn_grammar.specs.Kind.{ForeignItems, GenericParam, GenericParams, Generics, IdentPattern}
use Rattle.syn_grammar.specs.Kind.{ImplGenerics, ImplItems, ImplType, InExpression, InFile, InForeign, InImpl}
use Rattle.syn_grammar.specs.Kind.{InModule, InTrait, InType, Index, InferType, InnerAttribute, InnerAttributes}
use Rattle.syn_grammar.specs.Kind.{ItemMacro, Items, Label, LifetimeColon, LifetimeParam, Lifetimes}
use Rattle.syn_grammar.specs.Kind.{LiteralPattern, Member, Meta, NamedField, NamedFields, NeverType, OnePattern}
use Rattle.syn_grammar.specs.Kind.{OuterAttribute, OuterAttributes, Parameter, Parameters, ParenthesizedArguments}
use Rattle.syn_grammar.specs.Kind.{Path, PathPattern, Pattern, Plain, PointerType, QualifiedPath, RangeBound}
use Rattle.syn_grammar.specs.Kind.{RangeEnd, RangeToPattern, Receiver, ReferencePattern, ReferenceType}
use Rattle.syn_grammar.specs.Kind.{RestPattern, ReturnType, Segment, Segments, SeveralPatterns, Signature}
use Rattle.syn_grammar.specs.Kind.{SlicePattern, SomeBounds, Statements, TraitItems, TraitPath, TuplePattern}
use Rattle.syn_grammar.specs.Kind.{TupleType, TypeParam, UnnamedField, UnnamedFields, UseBranch, UseRooted}
use Rattle.syn_grammar.specs.Kind.{UseTop, UseTree, Variant, Visibility, Where, WhereClause, WherePredicate}
use Rattle.syn_grammar.specs.Kind.{WildPattern, WithPlus, WithoutPlus}
use Rattle.syn_grammar.specs.Tree.{Tree, AWord, Pair, First, Second, Again, Final, More, Group, Dropped, Called}
use Rattle.syn_grammar.specs.Tree.{Verbatim}
use Rattle.syn_grammar.specs.Tree.{Node, Whole, Alone, Front, Back, Infix, flat}
use Rattle.rust_leaf.specs.Keywords.{is_among, same_text}
use Rattle.syn_grammar.specs.Look.{a_lifetime, sees, ◌then◌, ◌or◌}
use Rattle.syn_grammar.specs.Say.{at, marks}
use Rattle.syn_grammar.specs.Normal.{normal, normal_in}
use Rattle.syn_grammar.specs.Forms.{is_brace_macro}
use Rattle.proc_macro2.specs.Token.{Ident}
use Rattle.syn_grammar.specs.Kind.{InStatement}
use Rattle.std.specs.Bool.{◌==◌}
use Rattle.syn_grammar.specs.Name.{the_const, the_default, the_first, the_self, the_value, the_where}
use Rattle.syn_grammar.specs.Part.{choice, has, the}
use Rattle.syn_grammar.specs.Kept.{is_there, kept}
use Rattle.syn_grammar.specs.Tidy.{is_lone_path}
use Rattle.syn_grammar.specs.Verdicts.{is_path_type, is_where}

unfoldable pub has_step : Kind → Bool
has_step (Path InModule) = true
has_step (Path InExpression) = true
has_step (Path InType) = true
has_step (Path AtType) = true
has_step (Segments InModule) = true
has_step (Segments InExpression) = true
has_step (Segments InType) = true
has_step (Segments AtType) = true
has_step (Segment InModule) = true
has_step (Segment InExpression) = true
has_step (Segment InType) = true
has_step (Segment AtType) = true
has_step (QualifiedPath InModule) = true
has_step (QualifiedPath InExpression) = true
has_step (QualifiedPath InType) = true
has_step (QualifiedPath AtType) = true
has_step (AnyPath InModule) = true
has_step (AnyPath InExpression) = true
has_step (AnyPath InType) = true
has_step (AnyPath AtType) = true
has_step Arguments = true
has_step AnArgument = true
has_step ParenthesizedArguments = true
has_step AMacro = true
has_step Delimited = true
has_step Member = true
has_step Index = true
has_step (AType WithPlus) = true
has_step (AType WithoutPlus) = true
has_step (DynType WithPlus) = true
has_step (DynType WithoutPlus) = true
has_step (ImplType WithPlus) = true
has_step (ImplType WithoutPlus) = true
has_step (ReturnType WithPlus) = true
has_step (ReturnType WithoutPlus) = true
has_step TupleType = true
has_step NeverType = true
has_step ReferenceType = true
has_step PointerType = true
has_step BracketType = true
has_step InferType = true
has_step FnPtrType = true
has_step FnPtrArg = true
has_step SomeBounds = true
has_step Bounds = true
has_step Bound = true
has_step TraitPath = true
has_step BoundLifetimes = true
has_step Lifetimes = true
has_step Abi = true
has_step Pattern = true
has_step SeveralPatterns = true
has_step OnePattern = true
has_step IdentPattern = true
has_step WildPattern = true
has_step RangeToPattern = true
has_step RestPattern = true
has_step TuplePattern = true
has_step SlicePattern = true
has_step ReferencePattern = true
has_step LiteralPattern = true
has_step PathPattern = true
has_step RangeEnd = true
has_step RangeBound = true
has_step FieldPatterns = true
has_step FieldPattern = true
has_step OuterAttributes = true
has_step OuterAttribute = true
has_step InnerAttributes = true
has_step InnerAttribute = true
has_step Meta = true
has_step Generics = true
has_step ImplGenerics = true
has_step GenericParams = true
has_step GenericParam = true
has_step LifetimeParam = true
has_step LifetimeColon = true
has_step ConstParam = true
has_step TypeParam = true
has_step BoundsColon = true
has_step Where = true
has_step WhereClause = true
has_step WherePredicate = true
has_step Visibility = true
has_step NamedFields = true
has_step UnnamedFields = true
has_step NamedField = true
has_step UnnamedField = true
has_step Variant = true
has_step AStruct = true
has_step AnEnum = true
has_step AUnion = true
has_step AStatic = true
has_step AConst = true
has_step AnExternCrate = true
has_step AUse = true
has_step UseTop = true
has_step UseTree = true
has_step UseBranch = true
has_step UseRooted = true
has_step Parameters = true
has_step Parameter = true
has_step FnArg = true
has_step Receiver = true
has_step (Signature InFile) = true
has_step (Signature InForeign) = true
has_step (Signature InTrait) = true
has_step (Signature InImpl) = true
has_step (AFunction InFile) = true
has_step (AFunction InForeign) = true
has_step (AFunction InTrait) = true
has_step (AFunction InImpl) = true
has_step (ATypeAlias InFile) = true
has_step (ATypeAlias InForeign) = true
has_step (ATypeAlias InTrait) = true
has_step (ATypeAlias InImpl) = true
has_step (ItemMacro InFile) = true
has_step (ItemMacro InForeign) = true
has_step (ItemMacro InTrait) = true
has_step (ItemMacro InImpl) = true
has_step Label = true
has_step Body = true
has_step Block = true
has_step ALet = true
has_step Statements = true
has_step Items = true
has_step ForeignItems = true
has_step TraitItems = true
has_step ImplItems = true
has_step AModule = true
has_step AForeignModule = true
has_step AMacroDefinition = true
has_step ATrait = true
has_step AConstTrait = true
has_step ARestrictedTrait = true
has_step AnImpl = true
has_step AnItem = true
has_step AForeignItem = true
has_step ATraitItem = true
has_step AnImplItem = true
has_step AFile = true
has_step ExprLit = true
has_step ExprPath = true
has_step ExprMacro = true
has_step ExprParen = true
has_step ExprArray = true
has_step ExprRepeat = true
has_step ExprGroup = true
has_step ExprInfer = true
has_step ExprBlock = true
has_step ExprUnsafe = true
has_step ExprAsync = true
has_step ExprConst = true
has_step ExprTryBlock = true
has_step ExprIf = true
has_step ExprMatch = true
has_step ExprLoop = true
has_step ExprWhile = true
has_step ExprForLoop = true
has_step ExprContinue = true
has_step ExprTypedClosure = true
has_step ExprStruct = true
has_step ExprCall = true
has_step ExprMethodCall = true
has_step ExprField = true
has_step ExprAwait = true
has_step ExprIndex = true
has_step ExprTry = true
has_step ExprCast = true
has_step ExprAttributed = true
has_step ExprUnary = true
has_step ExprRawAddr = true
has_step ExprReference = true
has_step ExprLet = true
has_step ExprBreak = true
has_step ExprReturn = true
has_step ExprYield = true
has_step ExprClosure = true
has_step ExprRange = true
has_step ExprRangeClosed = true
has_step ExprAssign = true
has_step ExprOr = true
has_step ExprAnd = true
has_step ExprCompare = true
has_step ExprBitOr = true
has_step ExprBitXor = true
has_step ExprBitAnd = true
has_step ExprShift = true
has_step ExprSum = true
has_step ExprProduct = true
has_step FieldValues = true
has_step AFieldValue = true
has_step FieldValue = true
has_step Arms = true
has_step Arm = true
has_step ClosureParam = true
has_step k = false

-- The same of expressions, of the kinds of their forms and of statements, in the crate `laws_reread`.
unfoldable pub has_form_step : Kind → Bool
has_form_step (Expression p) = true
has_form_step AStatement = true
has_form_step ExprLit = true
has_form_step ExprPath = true
has_form_step ExprMacro = true
has_form_step ExprCast = true
has_form_step ExprContinue = true
has_form_step ExprTypedClosure = true
has_form_step ExprStruct = true
has_form_step ExprParen = true
has_form_step ExprArray = true
has_form_step ExprRepeat = true
has_form_step ExprGroup = true
has_form_step ExprInfer = true
has_form_step ExprBlock = true
has_form_step ExprUnsafe = true
has_form_step ExprAsync = true
has_form_step ExprConst = true
has_form_step ExprTryBlock = true
has_form_step ExprIf = true
has_form_step ExprMatch = true
has_form_step ExprLoop = true
has_form_step ExprWhile = true
has_form_step ExprForLoop = true
has_form_step ExprCall = true
has_form_step ExprMethodCall = true
has_form_step ExprField = true
has_form_step ExprAwait = true
has_form_step ExprIndex = true
has_form_step ExprTry = true
has_form_step ExprAttributed = true
has_form_step ExprUnary = true
has_form_step ExprRawAddr = true
has_form_step ExprReference = true
has_form_step ExprLet = true
has_form_step ExprBreak = true
has_form_step ExprReturn = true
has_form_step ExprYield = true
has_form_step ExprClosure = true
has_form_step ExprRange = true
has_form_step ExprRangeClosed = true
has_form_step ExprAssign = true
has_form_step ExprOr = true
has_form_step ExprAnd = true
has_form_step ExprCompare = true
has_form_step ExprBitOr = true
has_form_step ExprBitXor = true
has_form_step ExprBitAnd = true
has_form_step ExprShift = true
has_form_step ExprSum = true
has_form_step ExprProduct = true
has_form_step k = false

abbrev pub is_known : Kind → Bool
is_known k = has_step k || has_form_step k

-- of a form's own part
abbrev pub is_form : Kind → Bool
is_form (Expression p) = false
is_form AStatement = false
is_form k = has_form_step k

-- A constant has no where clause behind a value: an item with both is raw.
abbrev pub has_lone_value : Tree → Bool
has_lone_value x = not (has the_value x && is_where (the the_where x))

abbrev pub inner : Tree → Tree
inner (Node k x) = x
inner x = x

abbrev pub front : Tree → Tree
front (Pair x y) = x
front x = x

abbrev pub lone_rest : Tree → Bool
lone_rest (Second (Second (Second e))) = true
lone_rest _ = false

-- A path pattern that is one identifier alone is read before ... only: elsewhere the identifier is a binding, or begins
-- a range.
abbrev pub lone_pattern : Tree → Bool
lone_pattern (Pair p e) = is_lone_path p && lone_rest e
lone_pattern _ = false

abbrev pub is_lone : Tree → Bool
is_lone (Node PathPattern y) = lone_pattern y
is_lone _ = false

-- What is implemented is a path: else an item with it is raw.
abbrev pub has_own_trait : Tree → Bool
has_own_trait x = not (has the_self x && not (is_path_type (the the_first x)))

abbrev pub is_no_macro : Tree → Bool
is_no_macro (Node (ItemMacro p) x) = false
is_no_macro _ = true

-- behind its attributes and its visibility
abbrev pub item_of : Tree → Tree
item_of (First x) = item_of x
item_of (Second x) = item_of x
item_of (Pair x y) = item_of y
item_of (Called n y) = y
item_of x = x

-- in an impl no const stands behind default: among statements it would begin no item
abbrev pub is_begun : Tree → Bool
is_begun (Node AnImpl y) = not (has the_default y && has the_const y)
is_begun _ = true

-- A macro by the word crate alone stands among statements as an item by that word: no name stands behind its !, and its
-- tokens stand in no braces.
abbrev pub is_crate_path : Tree → Bool
is_crate_path (Node k (Pair (Second z) (Node l (First (Pair (AWord cs) (Second y)))))) = same_text (codes "crate") cs
is_crate_path _ = false

abbrev pub is_crate_macro : Tree → Bool
is_crate_macro (Pair q (Pair b (Pair n g))) = is_crate_path q && (not (is_there n) && not (is_there g))
is_crate_macro _ = false

abbrev pub is_no_call : Tree → Bool
is_no_call (Node (ItemMacro p) x) = is_crate_macro x
is_no_call _ = true

-- Items among statements that begin with an item's words are no other macros.
abbrev pub is_statement_item : Tree → Bool
is_statement_item (Verbatim x) = is_no_macro (choice (item_of x)) && is_begun (choice (item_of x))
is_statement_item x = is_no_call (choice (item_of x))

-- The expression of a statement begins, as it is printed, with no attributes of its own; behind a word that begins
-- items too stands no other word but as, and behind crate stands ::.
abbrev pub soft_words : List (List ℕ)
soft_words = codes "union" ∷ codes "auto" ∷ codes "default" ∷ []

abbrev pub no_word : List Token → Bool
no_word (Ident cs ∷ ts) = same_text (codes "as") cs
no_word ts = true

abbrev pub is_plain_start : List Token → Bool
is_plain_start [] = false
is_plain_start (Ident cs ∷ ts) =
    (not (is_among soft_words cs) || no_word ts) && (not (same_text (codes "crate") cs) || sees (marks "::") ts)
is_plain_start (Punct c spacing ∷ ts) = not (c == 35)
is_plain_start (t ∷ ts) = true

-- A macro in braces alone is a statement by itself, and no expression there.
abbrev pub is_plain_expression : Tree → Bool
is_plain_expression (Node k (Whole x)) = is_plain_start (flat x) && not (is_brace_macro x)
is_plain_expression _ = false

abbrev pub is_expression_form : Tree → Bool
is_expression_form (Pair (Called n a) (Pair (Called m e) s)) = is_plain_expression (normal_in InStatement (kept e))
is_expression_form _ = false

-- A macro that is a statement has its tokens in braces, as it has wherever such a statement was read.
abbrev pub is_macro_form : Tree → Bool
is_macro_form (Pair a (Pair m s)) = is_brace_macro (Alone ExprMacro m)
is_macro_form _ = false

-- A macro that stands among statements as an item has a name behind its !, and nothing but attributes in front, as it
-- has wherever it was read so.
abbrev pub is_named_macro : Tree → Bool
is_named_macro (Node (ItemMacro p) (Pair q (Pair b (Pair n g)))) = is_there n
is_named_macro _ = false

abbrev pub is_private : Tree → Bool
is_private (Called n (Node k v)) = not (is_there v)
is_private _ = false

abbrev pub is_macro_item : Tree → Bool
is_macro_item (Node k (First (Pair o (Pair v i)))) = is_private v && is_named_macro (choice (item_of i))
is_macro_item _ = false

-- Statements are such macros, lets, such items and such expressions.
abbrev pub is_statement_form : Tree → Bool
is_statement_form (First x) = is_macro_item x
is_statement_form (Second (First x)) = is_macro_form x
is_statement_form (Second (Second (First x))) = true
is_statement_form (Second (Second (Second (First (Node k x))))) = is_statement_item x
is_statement_form (Second (Second (Second (Second x)))) = is_expression_form x
is_statement_form _ = false

-- what holds of a kind's tree
abbrev pub is_taken : Kind → Tree → Bool
is_taken AConst x = has_lone_value x
is_taken OnePattern x = not (is_lone (choice x))
is_taken AnImpl x = has_own_trait x
is_taken AStatement x = is_statement_form x
is_taken k x = true

-- of a form's own part, in normal form: behind the for of a closure begins no attribute, and behind one with a type ->
-- begins it, as it is wherever such a form was read
abbrev pub is_bound : Tree → Bool
is_bound (First b) = sees (at "for" then marks "<" then (a_lifetime or marks ">")) (flat b)
is_bound b = true

abbrev pub is_plain_part : Kind → Tree → Bool
is_plain_part ExprClosure (Pair b y) = is_bound b
is_plain_part ExprClosure y = false
is_plain_part ExprTypedClosure (Pair (Pair b y) (Pair r z)) = is_bound b && sees (marks "->") (flat r)
is_plain_part ExprTypedClosure y = false
is_plain_part k y = true

-- All that a tree holds is covered.
abbrev pub all_covered : Tree → Bool
all_covered (Pair x y) = all_covered x && all_covered y
all_covered (First x) = all_covered x
all_covered (Second x) = all_covered x
all_covered (Again x y) = all_covered x && all_covered y
all_covered (Final x) = all_covered x
all_covered (More x c spacing y) = all_covered x && all_covered y
all_covered (Group d x) = all_covered x
all_covered (Dropped x) = all_covered x
all_covered (Called n x) = all_covered x
all_covered (Verbatim x) = true
all_covered (Node k x) = is_known k && (is_taken k x && all_covered x)
all_covered (Whole x) = all_covered x
all_covered (Alone k y) = is_form k && (is_plain_part k (normal (kept y)) && all_covered y)
all_covered (Front k y x) =
    is_form k && (is_plain_part k (normal (kept y)) && (all_covered y && all_covered x))
all_covered (Back l k y) = is_form k && (all_covered l && all_covered y)
all_covered (Infix l k y r) = is_form k && (all_covered y && (all_covered l && all_covered r))
all_covered _ = true

-- An expression by itself stands in plain position: in a condition, in an arm and in a statement it stands in what has
-- these. An arm stands among arms.
abbrev pub stands_alone : Tree → Bool
stands_alone (Node Arm x) = false
stands_alone (Node (Expression Plain) x) = true
stands_alone (Node (Expression p) x) = false
stands_alone x = true
