-- What may follow a kind's tree, of what the looks see. What may not, `behind`, is written by the crate's
-- tools/steps.py from the entries; all else by hand.
use Rattle.std.specs.Prelude.{◌≡◌, true, false, List, [], ◌∷◌}
use Rattle.syn_grammar.specs.Expressions.{postfix_stands}
use Rattle.syn_grammar.specs.Generics.{impl_generics_stand, where_ends}
use Rattle.syn_grammar.specs.Items.{restricted, restricted_in}
use Rattle.syn_grammar.specs.Kind.{Kind, Position, AFieldValue, AFile, AType, Abi, AnArgument, AnyPath, Arm, Arms}
use Rattle.syn_grammar.specs.Kind.{AtType, Bound, Bounds, BoundsColon, ClosureParam, ConstParam, DynType}
use Rattle.syn_grammar.specs.Kind.{ExprAttributed, ExprBreak, ExprCast, ExprContinue, ExprIf, ExprPath}
use Rattle.syn_grammar.specs.Kind.{ExprReference, Expression, FieldPattern, FieldValue, FnArg, FnPtrArg}
use Rattle.syn_grammar.specs.Kind.{FnPtrType, ForeignItems, GenericParam, GenericParams, Generics, IdentPattern}
use Rattle.syn_grammar.specs.Kind.{ImplGenerics, ImplItems, ImplType, InArm, InCondition, InExpression, InFile}
use Rattle.syn_grammar.specs.Kind.{InForeign, InImpl, InModule, InStatement, InTrait, InType, InnerAttributes}
use Rattle.syn_grammar.specs.Kind.{Items, LifetimeColon, LifetimeParam, Lifetimes, LiteralPattern, Meta, OneStatement}
use Rattle.syn_grammar.specs.Kind.{NamedField, OnePattern, OuterAttributes, Parameter, ParenthesizedArguments}
use Rattle.syn_grammar.specs.Kind.{Path, PathPattern, Pattern, Plain, PointerType, QualifiedPath, RangeBound}
use Rattle.syn_grammar.specs.Kind.{RangeEnd, RangeToPattern, Receiver, ReferencePattern, ReferenceType}
use Rattle.syn_grammar.specs.Kind.{ReturnType, Segment, Segments, SeveralPatterns, Signature, SomeBounds}
use Rattle.syn_grammar.specs.Kind.{Statements, TraitItems, TraitPath, TypeParam, UnnamedField, UseBranch}
use Rattle.syn_grammar.specs.Kind.{UseRooted, UseTop, UseTree, Variant, Visibility, Where, WhereClause}
use Rattle.syn_grammar.specs.Kind.{WherePredicate, WithPlus, WithoutPlus}
use Rattle.syn_grammar.specs.Look.{Look, maybe, no, sees, a_quoted, a_lifetime, the_end, ◌then◌, ◌or◌}
use Rattle.syn_grammar.specs.Paths.{arguments_stand, parentheses_stand}
use Rattle.syn_grammar.specs.Patterns.{vert, range_bound_stands, range_end_stands}
use Rattle.syn_grammar.specs.Say.{at, marks, parenthesis, brace, bracket}
use Rattle.syn_grammar.specs.Types.{colon, bound_stands}
use Rattle.syn_grammar.specs.Words.{is_string}
use Rattle.syn_grammar.specs.Kind.{ExprMacro}
use Rattle.syn_grammar.specs.Tree.{Tree, Pair, First, Second, Called, Node, Whole, Alone, Front, Back, Infix}
use Rattle.syn_grammar.specs.Parens.{may_lack}
use Rattle.syn_grammar.specs.Kept.{is_there}
use Rattle.std.specs.Prelude.{not, ◌||◌}
use Rattle.syn_grammar.specs.Kind.{AStatement}
use Rattle.syn_grammar.specs.Name.{the_base}
use Rattle.syn_grammar.specs.Part.{has}
use Rattle.syn_grammar.specs.Forms.{ends_there}
use Rattle.proc_macro2.specs.Token.{Token}
use Rattle.std.specs.Prelude.{◌⊎◌, Bool}
use Rattle.laws_reread_kinds.specs.Sees.{LacksAll}

abbrev pub behind : Kind → List Look
behind (Expression Plain) = no (the_end or marks "," or marks ";" or marks "=>") ∷ []
behind (Expression InCondition) = no brace ∷ []
behind (Expression InArm) = no (the_end or marks ",") ∷ []
behind (Expression InStatement) = no (the_end or marks ";") ∷ []
behind (Path InModule) = marks "::" ∷ []
behind (Path InExpression) = marks "::" ∷ arguments_stand InExpression ∷ []
behind (Path InType) = marks "::" ∷ arguments_stand InType ∷ []
behind (Path AtType) = marks "::" ∷ arguments_stand AtType ∷ parentheses_stand AtType ∷ marks "->" ∷ []
behind (Segments InModule) = marks "::" ∷ []
behind (Segments InExpression) = marks "::" ∷ arguments_stand InExpression ∷ []
behind (Segments InType) = marks "::" ∷ arguments_stand InType ∷ []
behind (Segments AtType) = marks "::" ∷ arguments_stand AtType ∷ parentheses_stand AtType ∷ marks "->" ∷ []
behind (Segment InExpression) = arguments_stand InExpression ∷ []
behind (Segment InType) = arguments_stand InType ∷ []
behind (Segment AtType) = arguments_stand AtType ∷ parentheses_stand AtType ∷ marks "->" ∷ marks "::" ∷ []
behind (QualifiedPath InModule) = marks "::" ∷ []
behind (QualifiedPath InExpression) = marks "::" ∷ arguments_stand InExpression ∷ []
behind (QualifiedPath InType) = marks "::" ∷ arguments_stand InType ∷ []
behind (QualifiedPath AtType) = marks "::" ∷ arguments_stand AtType ∷ parentheses_stand AtType ∷ marks "->" ∷ []
behind (AnyPath InModule) = marks "::" ∷ []
behind (AnyPath InExpression) = marks "::" ∷ arguments_stand InExpression ∷ []
behind (AnyPath InType) = marks "::" ∷ arguments_stand InType ∷ []
behind (AnyPath AtType) = marks "::" ∷ arguments_stand AtType ∷ parentheses_stand AtType ∷ marks "->" ∷ []
behind AnArgument = marks "=" ∷ marks "::" ∷ arguments_stand AtType ∷ parentheses_stand AtType ∷ marks "->" ∷
    bound_stands ∷ marks "+" ∷ []
behind ParenthesizedArguments = marks "->" ∷ marks "::" ∷ arguments_stand AtType ∷ parentheses_stand AtType ∷ []
behind (AType WithPlus) = marks "::" ∷ arguments_stand AtType ∷ parentheses_stand AtType ∷ marks "->" ∷ bound_stands
    ∷ marks "+" ∷ []
behind (AType WithoutPlus) = marks "::" ∷ arguments_stand AtType ∷ parentheses_stand AtType ∷ marks "->" ∷ []
behind (DynType WithPlus) = bound_stands ∷ marks "+" ∷ marks "::" ∷ arguments_stand AtType ∷ parentheses_stand AtType
    ∷ marks "->" ∷ []
behind (DynType WithoutPlus) = marks "::" ∷ arguments_stand AtType ∷ parentheses_stand AtType ∷ marks "->" ∷ []
behind (ImplType WithPlus) = bound_stands ∷ marks "+" ∷ marks "::" ∷ arguments_stand AtType ∷ parentheses_stand
    AtType ∷ marks "->" ∷ []
behind (ImplType WithoutPlus) = marks "::" ∷ arguments_stand AtType ∷ parentheses_stand AtType ∷ marks "->" ∷ []
behind (ReturnType WithPlus) = marks "->" ∷ marks "::" ∷ arguments_stand AtType ∷ parentheses_stand AtType ∷
    bound_stands ∷ marks "+" ∷ []
behind (ReturnType WithoutPlus) = marks "->" ∷ marks "::" ∷ arguments_stand AtType ∷ parentheses_stand AtType ∷ []
behind ReferenceType = marks "::" ∷ arguments_stand AtType ∷ parentheses_stand AtType ∷ marks "->" ∷ []
behind PointerType = marks "::" ∷ arguments_stand AtType ∷ parentheses_stand AtType ∷ marks "->" ∷ []
behind FnPtrType = marks "->" ∷ marks "::" ∷ arguments_stand AtType ∷ parentheses_stand AtType ∷ []
behind FnPtrArg = colon ∷ marks "::" ∷ arguments_stand AtType ∷ parentheses_stand AtType ∷ marks "->" ∷ bound_stands
    ∷ marks "+" ∷ []
behind SomeBounds = bound_stands ∷ marks "+" ∷ marks "::" ∷ arguments_stand AtType ∷ parentheses_stand AtType ∷ marks
    "->" ∷ []
behind Bounds = bound_stands ∷ marks "+" ∷ marks "::" ∷ arguments_stand AtType ∷ parentheses_stand AtType ∷ marks
    "->" ∷ []
behind Bound = marks "::" ∷ arguments_stand AtType ∷ parentheses_stand AtType ∷ marks "->" ∷ []
behind TraitPath = marks "::" ∷ arguments_stand AtType ∷ parentheses_stand AtType ∷ marks "->" ∷ []
behind Lifetimes = a_lifetime ∷ marks "+" ∷ []
behind Abi = a_quoted is_string ∷ []
behind Pattern = vert ∷ marks ".." ∷ marks "!" ∷ marks "@" ∷ range_end_stands ∷ parenthesis ∷ brace ∷ marks "::" ∷
    arguments_stand InExpression ∷ range_bound_stands ∷ []
behind SeveralPatterns = vert ∷ marks ".." ∷ marks "!" ∷ marks "@" ∷ range_end_stands ∷ parenthesis ∷ brace ∷ marks
    "::" ∷ arguments_stand InExpression ∷ range_bound_stands ∷ []
behind OnePattern = marks ".." ∷ marks "!" ∷ marks "@" ∷ range_end_stands ∷ parenthesis ∷ brace ∷ marks "::" ∷
    arguments_stand InExpression ∷ range_bound_stands ∷ []
behind IdentPattern = marks "!" ∷ marks "@" ∷ marks ".." ∷ range_end_stands ∷ parenthesis ∷ brace ∷ marks "::" ∷
    arguments_stand InExpression ∷ range_bound_stands ∷ []
behind RangeToPattern = marks "::" ∷ arguments_stand InExpression ∷ []
behind ReferencePattern = marks ".." ∷ marks "!" ∷ marks "@" ∷ range_end_stands ∷ parenthesis ∷ brace ∷ marks "::" ∷
    arguments_stand InExpression ∷ range_bound_stands ∷ []
behind LiteralPattern = range_end_stands ∷ range_bound_stands ∷ marks "::" ∷ arguments_stand InExpression ∷ []
behind PathPattern = parenthesis ∷ brace ∷ range_end_stands ∷ marks "::" ∷ arguments_stand InExpression ∷
    range_bound_stands ∷ []
behind RangeEnd = range_bound_stands ∷ marks "::" ∷ arguments_stand InExpression ∷ []
behind RangeBound = marks "::" ∷ arguments_stand InExpression ∷ []
behind FieldPattern = vert ∷ marks ":" ∷ marks ".." ∷ marks "!" ∷ marks "@" ∷ range_end_stands ∷ parenthesis ∷ brace
    ∷ marks "::" ∷ arguments_stand InExpression ∷ range_bound_stands ∷ []
behind OuterAttributes = marks "#" ∷ []
behind InnerAttributes = (marks "#" then marks "!") ∷ []
behind Meta = (parenthesis or brace or bracket) ∷ marks "=" ∷ no (the_end or marks "," or marks ";" or marks "=>") ∷
    marks "::" ∷ []
behind Generics = marks "<" ∷ []
behind ImplGenerics = impl_generics_stand ∷ []
behind GenericParams = no (marks ">") ∷ marks "," ∷ marks "=" ∷ marks "::" ∷ arguments_stand AtType ∷
    parentheses_stand AtType ∷ marks ":" ∷ a_lifetime ∷ marks "+" ∷ marks "->" ∷ bound_stands ∷ []
behind GenericParam = marks "=" ∷ marks "::" ∷ arguments_stand AtType ∷ parentheses_stand AtType ∷ marks ":" ∷
    a_lifetime ∷ marks "+" ∷ marks "->" ∷ bound_stands ∷ []
behind LifetimeParam = marks ":" ∷ a_lifetime ∷ marks "+" ∷ []
behind LifetimeColon = marks ":" ∷ a_lifetime ∷ marks "+" ∷ []
behind ConstParam = marks "=" ∷ marks "::" ∷ arguments_stand AtType ∷ parentheses_stand AtType ∷ marks "->" ∷
    bound_stands ∷ marks "+" ∷ []
behind TypeParam = marks "=" ∷ marks "::" ∷ arguments_stand AtType ∷ parentheses_stand AtType ∷ marks "->" ∷ marks
    ":" ∷ bound_stands ∷ marks "+" ∷ []
behind BoundsColon = marks ":" ∷ bound_stands ∷ marks "+" ∷ marks "::" ∷ arguments_stand AtType ∷ parentheses_stand
    AtType ∷ marks "->" ∷ []
behind Where = at "where" ∷ no where_ends ∷ marks "," ∷ a_lifetime ∷ marks "+" ∷ bound_stands ∷ marks "::" ∷
    arguments_stand AtType ∷ parentheses_stand AtType ∷ marks "->" ∷ []
behind WhereClause = no where_ends ∷ marks "," ∷ a_lifetime ∷ marks "+" ∷ bound_stands ∷ marks "::" ∷ arguments_stand
    AtType ∷ parentheses_stand AtType ∷ marks "->" ∷ []
behind WherePredicate = a_lifetime ∷ marks "+" ∷ bound_stands ∷ marks "::" ∷ arguments_stand AtType ∷
    parentheses_stand AtType ∷ marks "->" ∷ []
behind Visibility = at "pub" ∷ (restricted or restricted_in) ∷ []
behind NamedField = marks "=" ∷ no (the_end or marks "," or marks ";" or marks "=>") ∷ marks "::" ∷ arguments_stand
    AtType ∷ parentheses_stand AtType ∷ marks "->" ∷ bound_stands ∷ marks "+" ∷ []
behind UnnamedField = marks "=" ∷ marks "::" ∷ arguments_stand AtType ∷ parentheses_stand AtType ∷ marks "->" ∷
    bound_stands ∷ marks "+" ∷ []
behind Variant = marks "=" ∷ no (the_end or marks "," or marks ";" or marks "=>") ∷ brace ∷ parenthesis ∷ []
behind UseTop = marks "::" ∷ at "as" ∷ []
behind UseTree = marks "::" ∷ at "as" ∷ []
behind UseBranch = marks "::" ∷ at "as" ∷ []
behind UseRooted = marks "::" ∷ at "as" ∷ []
behind Parameter = marks "::" ∷ arguments_stand AtType ∷ parentheses_stand AtType ∷ marks ":" ∷ marks "->" ∷
    bound_stands ∷ marks "+" ∷ []
behind FnArg = marks "::" ∷ arguments_stand AtType ∷ parentheses_stand AtType ∷ marks ":" ∷ marks "->" ∷ bound_stands
    ∷ marks "+" ∷ []
behind Receiver = marks ":" ∷ marks "::" ∷ arguments_stand AtType ∷ parentheses_stand AtType ∷ marks "->" ∷
    bound_stands ∷ marks "+" ∷ []
behind (Signature InFile) = at "where" ∷ marks "->" ∷ marks "::" ∷ arguments_stand AtType ∷ parentheses_stand AtType
    ∷ no where_ends ∷ marks "," ∷ a_lifetime ∷ marks "+" ∷ bound_stands ∷ []
behind (Signature InForeign) = at "where" ∷ marks "->" ∷ marks "::" ∷ arguments_stand AtType ∷ parentheses_stand
    AtType ∷ no where_ends ∷ marks "," ∷ a_lifetime ∷ marks "+" ∷ bound_stands ∷ []
behind (Signature InTrait) = at "where" ∷ marks "->" ∷ marks "::" ∷ arguments_stand AtType ∷ parentheses_stand AtType
    ∷ no where_ends ∷ marks "," ∷ a_lifetime ∷ marks "+" ∷ bound_stands ∷ []
behind (Signature InImpl) = at "where" ∷ marks "->" ∷ marks "::" ∷ arguments_stand AtType ∷ parentheses_stand AtType
    ∷ no where_ends ∷ marks "," ∷ a_lifetime ∷ marks "+" ∷ bound_stands ∷ []
behind AStatement = no the_end ∷ []
behind Statements = no the_end ∷ []
behind OneStatement = no the_end ∷ []
behind Items = no the_end ∷ []
behind ForeignItems = no the_end ∷ []
behind TraitItems = no the_end ∷ []
behind ImplItems = no the_end ∷ []
behind AFile = no the_end ∷ (marks "#" then marks "!") ∷ []
behind ExprPath = marks "::" ∷ arguments_stand InExpression ∷ []
behind ExprIf = at "else" ∷ []
behind ExprContinue = a_lifetime ∷ []
behind ExprCast = postfix_stands ∷ marks "::" ∷ arguments_stand AtType ∷ parentheses_stand AtType ∷ marks "->" ∷ []
behind ExprAttributed = marks "#" ∷ []
behind ExprReference = at "mut" ∷ []
behind ExprBreak = a_lifetime ∷ marks ":" ∷ []
behind AFieldValue = no the_end ∷ []
behind FieldValue = no (the_end or marks "," or marks ";" or marks "=>") ∷ marks ":" ∷ []
behind Arms = no the_end ∷ []
behind Arm = maybe the_end ∷ []
behind ClosureParam = marks ":" ∷ marks "::" ∷ arguments_stand AtType ∷ parentheses_stand AtType ∷ marks ".." ∷ marks
    "->" ∷ marks "!" ∷ marks "@" ∷ range_end_stands ∷ parenthesis ∷ brace ∷ arguments_stand InExpression ∷
    bound_stands ∷ marks "+" ∷ range_bound_stands ∷ []
behind k = []

-- the form of an expression
abbrev pub whole : Tree → Tree
whole (Node k x) = whole x
whole (Whole x) = x
whole x = x

-- It is a form that ends an arm or a statement, and neither a . that begins no .. nor ? nor else follows it.
abbrev pub EndsThere : Position → Tree → List Token → Type 0
EndsThere p x s =
    (ends_there p (whole x) ≡ true)
    × LacksAll ((no (marks "..") then marks ".") ∷ marks "?" ∷ at "else" ∷ []) s

-- An expression that else may follow: it ends neither in a jump or a half-open range without its operand nor in an if.
abbrev pub is_if : Kind → Bool
is_if ExprIf = true
is_if k = false

abbrev pub is_closed : Tree → Bool
is_closed (Node k x) = is_closed x
is_closed (Whole x) = is_closed x
is_closed (Alone k y) = not (may_lack k || is_if k)
is_closed (Front k y x) = is_closed x
is_closed (Back l k y) = not (may_lack k)
is_closed (Infix l k y r) = is_closed r
is_closed x = false

-- of what stands in a struct expression: it is ..
abbrev pub is_end : Tree → Bool
is_end (Node k x) = is_end x
is_end x = has the_base x

-- of a type: it is a path, qualified or not
abbrev pub is_any_path : Tree → Bool
is_any_path (Node (AType p) x) = is_any_path x
is_any_path (Node (AnyPath s) x) = true
is_any_path (Second x) = is_any_path x
is_any_path x = false

-- of what stands behind impl: there are generics
abbrev pub is_generic : Tree → Bool
is_generic (Node k x) = is_generic x
is_generic (First x) = true
is_generic x = false

-- of a statement: it is an expression or a macro without a ; behind it
abbrev pub is_open : Tree → Bool
is_open (Second (First (Pair a (Pair m s)))) = not (is_there s)
is_open (Second (Second (Second (Second (Pair a (Pair e s)))))) = not (is_there s)
is_open x = false

abbrev pub expression_of : Tree → Tree
expression_of (Second (First (Pair a (Pair m s)))) = Node (Expression InStatement) (Whole (Alone ExprMacro m))
expression_of (Second (Second (Second (Second (Pair a (Pair (Called n e) s)))))) = e
expression_of x = x

-- Its expression, or its macro as one, ends there, and no ; follows it, which would be its own; or it is none that is
-- to end so.
abbrev pub EndsStatement : Tree → List Token → Type 0
EndsStatement (Node k x) s = EndsStatement x s
EndsStatement x s =
    (is_open x ≡ false) ⊎ (EndsThere InStatement (expression_of x) s × LacksAll (marks ";" ∷ []) s)

-- the statement that stands by itself
abbrev pub in_one : Tree → Tree
in_one (Node k x) = in_one x
in_one (First x) = x
in_one x = x

-- Behind an arm: where it has no comma, nothing, if its tree says so; or what it ends before, and no comma, which would
-- be its own.
abbrev pub EndsArm : Tree → Tree → List Token → Type 0
EndsArm e (First z) s = s ≡ []
EndsArm e (Second (First z)) s = Unit {0}
EndsArm e c s = EndsThere InArm e s × LacksAll (the_end ∷ marks "," ∷ []) s

abbrev pub FollowsArm : Tree → List Token → Type 0
FollowsArm (Node k x) s = FollowsArm x s
FollowsArm (First (Pair o (Pair p (Pair g (Pair a (Pair (Called n e) (Called m c))))))) s = EndsArm e c s
FollowsArm x s = s ≡ []

-- What may follow a kind's tree: what these looks don't see; behind a plain expression also else, as said above; behind
-- one in an arm or a statement what such a form ends before; behind a statement, by itself or among others, that has
-- its ; or is neither an expression nor a macro anything; behind an arm what is said above; behind a field of a struct
-- expression what may follow it, and behind .. the end; behind a type that is a path what may follow one without plus;
-- and behind the generics of an impl that are there anything.
abbrev pub After : Kind → Tree → List Token → Type 0
After (Expression Plain) x s =
    LacksAll (behind (Expression Plain)) s ⊎ ((is_closed x ≡ true) × (sees (at "else") s ≡ true))
After (Expression InArm) x s = LacksAll (behind (Expression InArm)) s ⊎ EndsThere InArm x s
After (Expression InStatement) x s = LacksAll (behind (Expression InStatement)) s ⊎ EndsThere InStatement x s
After AStatement x s = LacksAll (behind AStatement) s ⊎ EndsStatement x s
After OneStatement x s = LacksAll (behind OneStatement) s ⊎ EndsStatement (in_one x) s
After Arm x s = FollowsArm x s
After AFieldValue x s =
    LacksAll (behind AFieldValue) s ⊎ ((is_end x ≡ false) × LacksAll (behind FieldValue) s)
After (AType WithPlus) x s =
    LacksAll (behind (AType WithPlus)) s ⊎ ((is_any_path x ≡ true) × LacksAll (behind (AType WithoutPlus)) s)
After ImplGenerics x s = LacksAll (behind ImplGenerics) s ⊎ (is_generic x ≡ true)
After k x s = LacksAll (behind k) s
