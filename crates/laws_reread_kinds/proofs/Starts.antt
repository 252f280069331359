-- What a kind's tokens begin with, where it has some. Written by tools/steps.py, from the entries.
use Rattle.proc_macro2.specs.declared.delimiter.Delimiter.TheVariants as D
use Rattle.laws_reread_kinds.proofs.Classes.{Sign, TheWord, AnyWord, Quoted, Tick, Opening, Then, RawFront, Class}
use Rattle.proc_macro2.specs.declared.delimiter.Delimiter.TheVariants.{Parenthesis, Brace, Bracket}
use Rattle.std.specs.Prelude.{codes, List, [], ◌∷◌, ◌++◌}
use Rattle.syn_grammar.specs.Kind.{Kind, AConst, AConstTrait, AFieldValue, AFile, AForeignItem, AForeignModule}
use Rattle.syn_grammar.specs.Kind.{AFunction, ALet, AMacro, AMacroDefinition, AModule, ARestrictedTrait}
use Rattle.syn_grammar.specs.Kind.{AStatement, AStatic, AStruct, ATrait, ATraitItem, AType, ATypeAlias, AUnion}
use Rattle.syn_grammar.specs.Kind.{AUse, Abi, AnArgument, AnEnum, AnExternCrate, AnImpl, AnImplItem, AnItem}
use Rattle.syn_grammar.specs.Kind.{AnyPath, Arguments, Arm, Arms, AtType, Block, Body, Bound, BoundLifetimes, Bounds}
use Rattle.syn_grammar.specs.Kind.{BoundsColon, BracketType, ClosureParam, ConstParam, Delimited, DynType}
use Rattle.syn_grammar.specs.Kind.{ExprAnd, ExprArray, ExprAssign, ExprAsync, ExprAttributed, ExprAwait}
use Rattle.syn_grammar.specs.Kind.{ExprBitAnd, ExprBitOr, ExprBitXor, ExprBlock, ExprBreak, ExprCall, ExprCast}
use Rattle.syn_grammar.specs.Kind.{ExprClosure, ExprCompare, ExprConst, ExprContinue, ExprField, ExprForLoop}
use Rattle.syn_grammar.specs.Kind.{ExprGroup, ExprIf, ExprIndex, ExprInfer, ExprLet, ExprLit, ExprLoop, ExprMacro}
use Rattle.syn_grammar.specs.Kind.{ExprMatch, ExprMethodCall, ExprOr, ExprParen, ExprPath, ExprProduct, ExprRange}
use Rattle.syn_grammar.specs.Kind.{ExprRangeClosed, ExprRawAddr, ExprReference, ExprRepeat, ExprReturn, ExprShift}
use Rattle.syn_grammar.specs.Kind.{ExprStruct, ExprSum, ExprTry, ExprTryBlock, ExprTypedClosure, ExprUnary}
use Rattle.syn_grammar.specs.Kind.{ExprUnsafe, ExprWhile, ExprYield, Expression, FieldPattern, FieldPatterns}
use Rattle.syn_grammar.specs.Kind.{FieldValue, FieldValues, FnArg, FnPtrArg, FnPtrType, ForeignItems}
use Rattle.syn_grammar.specs.Kind.{GenericParam, GenericParams, Generics, IdentPattern, ImplGenerics, ImplItems}
use Rattle.syn_grammar.specs.Kind.{ImplType, InArm, InCondition, InExpression, InFile, InForeign, InImpl}
use Rattle.syn_grammar.specs.Kind.{InModule, InStatement, InTrait, InType, Index, InferType, InnerAttribute}
use Rattle.syn_grammar.specs.Kind.{InnerAttributes, ItemMacro, Items, Label, LifetimeColon, LifetimeParam}
use Rattle.syn_grammar.specs.Kind.{Lifetimes, LiteralPattern, Member, Meta, NamedField, NamedFields, NeverType}
use Rattle.syn_grammar.specs.Kind.{OnePattern, OuterAttribute, OuterAttributes, Parameter, Parameters}
use Rattle.syn_grammar.specs.Kind.{ParenthesizedArguments, Path, PathPattern, Pattern, Plain, PointerType}
use Rattle.syn_grammar.specs.Kind.{QualifiedPath, RangeBound, RangeEnd, RangeToPattern, Receiver}
use Rattle.syn_grammar.specs.Kind.{ReferencePattern, ReferenceType, RestPattern, ReturnType, Segment, Segments}
use Rattle.syn_grammar.specs.Kind.{SeveralPatterns, Signature, SlicePattern, SomeBounds, Statements, TraitItems}
use Rattle.syn_grammar.specs.Kind.{TraitPath, TuplePattern, TupleType, TypeParam, UnnamedField, UnnamedFields}
use Rattle.syn_grammar.specs.Kind.{UseBranch, UseRooted, UseTop, UseTree, Variant, Visibility, Where, WhereClause}
use Rattle.syn_grammar.specs.Kind.{WherePredicate, WildPattern, WithPlus, WithoutPlus}
use Rattle.syn_grammar.specs.Words.{is_ident, is_index, any_text}

-- an expression, where a statement begins
abbrev pub expression_starts : List Class
expression_starts = Then 35 [] (Opening Bracket) ∷ Quoted any_text ∷ Tick ∷ Opening Brace ∷ Opening
    Parenthesis ∷ Opening Bracket ∷ Opening D.None ∷ TheWord (codes "true") ∷ TheWord (codes "false") ∷ TheWord
    (codes "loop") ∷ TheWord (codes "while") ∷ TheWord (codes "for") ∷ TheWord (codes "static") ∷ TheWord
    (codes "move") ∷ TheWord (codes "const") ∷ TheWord (codes "async") ∷ TheWord (codes "unsafe") ∷ TheWord
    (codes "_") ∷ TheWord (codes "try") ∷ TheWord (codes "if") ∷ TheWord (codes "match") ∷ TheWord (codes "continue")
    ∷ TheWord (codes "break") ∷ TheWord (codes "return") ∷ TheWord (codes "yield") ∷ Sign 124 [] ∷ Sign 38 [] ∷ Sign
    42 [] ∷ Sign 33 [] ∷ Sign 45 [] ∷ Sign 46 (46 ∷ 61 ∷ []) ∷ Sign 46 (46 ∷ []) ∷ Sign 60 [] ∷ AnyWord is_ident ∷
    TheWord (codes "Self") ∷ TheWord (codes "self") ∷ TheWord (codes "super") ∷ TheWord (codes "crate") ∷ Then 58
    (58 ∷ []) (AnyWord is_ident) ∷ Then 58 (58 ∷ []) (TheWord (codes "Self")) ∷ Then 58 (58 ∷ [])
    (TheWord (codes "self")) ∷ Then 58 (58 ∷ []) (TheWord (codes "super")) ∷ Then 58 (58 ∷ [])
    (TheWord (codes "crate")) ∷ []

-- a let or an item among statements
abbrev pub statement_starts : List Class
statement_starts = RawFront ∷ Then 35 [] (Opening Bracket) ∷ TheWord (codes "let") ∷ TheWord (codes "pub") ∷ TheWord
    (codes "const") ∷ TheWord (codes "async") ∷ TheWord (codes "unsafe") ∷ TheWord (codes "extern") ∷ TheWord
    (codes "fn") ∷ TheWord (codes "use") ∷ TheWord (codes "static") ∷ TheWord (codes "mod") ∷ TheWord (codes "type")
    ∷ TheWord (codes "struct") ∷ TheWord (codes "enum") ∷ TheWord (codes "union") ∷ TheWord (codes "auto") ∷ TheWord
    (codes "trait") ∷ TheWord (codes "default") ∷ TheWord (codes "impl") ∷ AnyWord is_ident ∷ TheWord (codes "self")
    ∷ TheWord (codes "super") ∷ TheWord (codes "crate") ∷ Sign 58 (58 ∷ []) ∷ []

-- a pattern
abbrev pub pattern_starts : List Class
pattern_starts = Sign 124 [] ∷ TheWord (codes "ref") ∷ TheWord (codes "mut") ∷ AnyWord is_ident ∷ TheWord (codes "_")
    ∷ Then 46 (46 ∷ 61 ∷ []) (Sign 45 []) ∷ Then 46 (46 ∷ 61 ∷ []) (Quoted any_text) ∷ Then 46 (46 ∷ 61 ∷ [])
    (TheWord (codes "true")) ∷ Then 46 (46 ∷ 61 ∷ []) (TheWord (codes "false")) ∷ Then 46 (46 ∷ 61 ∷ []) (Sign 60 [])
    ∷ Then 46 (46 ∷ 61 ∷ []) (Then 58 (58 ∷ []) (TheWord (codes "self"))) ∷ Then 46 (46 ∷ 61 ∷ [])
    (Then 58 (58 ∷ []) (TheWord (codes "super"))) ∷ Then 46 (46 ∷ 61 ∷ [])
    (Then 58 (58 ∷ []) (TheWord (codes "crate"))) ∷ Then 46 (46 ∷ 61 ∷ []) (Then 58 (58 ∷ []) (AnyWord is_ident)) ∷
    Then 46 (46 ∷ 61 ∷ []) (Then 58 (58 ∷ []) (TheWord (codes "Self"))) ∷ Then 46 (46 ∷ 61 ∷ [])
    (TheWord (codes "self")) ∷ Then 46 (46 ∷ 61 ∷ []) (TheWord (codes "super")) ∷ Then 46 (46 ∷ 61 ∷ [])
    (TheWord (codes "crate")) ∷ Then 46 (46 ∷ 61 ∷ []) (AnyWord is_ident) ∷ Then 46 (46 ∷ 61 ∷ [])
    (TheWord (codes "Self")) ∷ Then 46 (46 ∷ []) (Sign 45 []) ∷ Then 46 (46 ∷ []) (Quoted any_text) ∷ Then 46
    (46 ∷ []) (TheWord (codes "true")) ∷ Then 46 (46 ∷ []) (TheWord (codes "false")) ∷ Then 46 (46 ∷ []) (Sign 60 [])
    ∷ Then 46 (46 ∷ []) (Then 58 (58 ∷ []) (TheWord (codes "self"))) ∷ Then 46 (46 ∷ [])
    (Then 58 (58 ∷ []) (TheWord (codes "super"))) ∷ Then 46 (46 ∷ []) (Then 58 (58 ∷ []) (TheWord (codes "crate"))) ∷
    Then 46 (46 ∷ []) (Then 58 (58 ∷ []) (AnyWord is_ident)) ∷ Then 46 (46 ∷ [])
    (Then 58 (58 ∷ []) (TheWord (codes "Self"))) ∷ Then 46 (46 ∷ []) (TheWord (codes "self")) ∷ Then 46 (46 ∷ [])
    (TheWord (codes "super")) ∷ Then 46 (46 ∷ []) (TheWord (codes "crate")) ∷ Then 46 (46 ∷ []) (AnyWord is_ident) ∷
    Then 46 (46 ∷ []) (TheWord (codes "Self")) ∷ Sign 46 (46 ∷ []) ∷ Opening Parenthesis ∷ Opening Bracket ∷ Sign 38
    [] ∷ Sign 45 [] ∷ Quoted any_text ∷ TheWord (codes "true") ∷ TheWord (codes "false") ∷ Sign 60 [] ∷ Then 58
    (58 ∷ []) (TheWord (codes "self")) ∷ Then 58 (58 ∷ []) (TheWord (codes "super")) ∷ Then 58 (58 ∷ [])
    (TheWord (codes "crate")) ∷ Then 58 (58 ∷ []) (AnyWord is_ident) ∷ Then 58 (58 ∷ []) (TheWord (codes "Self")) ∷
    TheWord (codes "self") ∷ TheWord (codes "super") ∷ TheWord (codes "crate") ∷ AnyWord is_ident ∷ TheWord
    (codes "Self") ∷ []

abbrev pub starts : Kind → List Class
starts (Expression Plain) = Then 35 [] (Opening Bracket) ∷ Quoted any_text ∷ Tick ∷ Opening Brace ∷ Opening
    Parenthesis ∷ Opening Bracket ∷ Opening D.None ∷ TheWord (codes "true") ∷ TheWord (codes "false") ∷ TheWord
    (codes "loop") ∷ TheWord (codes "while") ∷ TheWord (codes "for") ∷ TheWord (codes "static") ∷ TheWord
    (codes "move") ∷ TheWord (codes "const") ∷ TheWord (codes "async") ∷ TheWord (codes "unsafe") ∷ TheWord
    (codes "_") ∷ TheWord (codes "try") ∷ TheWord (codes "if") ∷ TheWord (codes "match") ∷ TheWord (codes "continue")
    ∷ TheWord (codes "break") ∷ TheWord (codes "return") ∷ TheWord (codes "yield") ∷ TheWord (codes "let") ∷ Sign 124
    [] ∷ Sign 38 [] ∷ Sign 42 [] ∷ Sign 33 [] ∷ Sign 45 [] ∷ Sign 46 (46 ∷ 61 ∷ []) ∷ Sign 46 (46 ∷ []) ∷ Sign 60 []
    ∷ AnyWord is_ident ∷ TheWord (codes "Self") ∷ TheWord (codes "self") ∷ TheWord (codes "super") ∷ TheWord
    (codes "crate") ∷ Then 58 (58 ∷ []) (AnyWord is_ident) ∷ Then 58 (58 ∷ []) (TheWord (codes "Self")) ∷ Then 58
    (58 ∷ []) (TheWord (codes "self")) ∷ Then 58 (58 ∷ []) (TheWord (codes "super")) ∷ Then 58 (58 ∷ [])
    (TheWord (codes "crate")) ∷ []
starts (Expression InCondition) = Then 35 [] (Opening Bracket) ∷ Quoted any_text ∷ Tick ∷ Opening Brace ∷ Opening
    Parenthesis ∷ Opening Bracket ∷ Opening D.None ∷ TheWord (codes "true") ∷ TheWord (codes "false") ∷ TheWord
    (codes "loop") ∷ TheWord (codes "while") ∷ TheWord (codes "for") ∷ TheWord (codes "static") ∷ TheWord
    (codes "move") ∷ TheWord (codes "const") ∷ TheWord (codes "async") ∷ TheWord (codes "unsafe") ∷ TheWord
    (codes "_") ∷ TheWord (codes "try") ∷ TheWord (codes "if") ∷ TheWord (codes "match") ∷ TheWord (codes "continue")
    ∷ TheWord (codes "break") ∷ TheWord (codes "return") ∷ TheWord (codes "yield") ∷ TheWord (codes "let") ∷ Sign 124
    [] ∷ Sign 38 [] ∷ Sign 42 [] ∷ Sign 33 [] ∷ Sign 45 [] ∷ Sign 46 (46 ∷ 61 ∷ []) ∷ Sign 46 (46 ∷ []) ∷ Sign 60 []
    ∷ AnyWord is_ident ∷ TheWord (codes "Self") ∷ TheWord (codes "self") ∷ TheWord (codes "super") ∷ TheWord
    (codes "crate") ∷ Then 58 (58 ∷ []) (AnyWord is_ident) ∷ Then 58 (58 ∷ []) (TheWord (codes "Self")) ∷ Then 58
    (58 ∷ []) (TheWord (codes "self")) ∷ Then 58 (58 ∷ []) (TheWord (codes "super")) ∷ Then 58 (58 ∷ [])
    (TheWord (codes "crate")) ∷ []
starts (Expression InArm) = Then 35 [] (Opening Bracket) ∷ Quoted any_text ∷ Tick ∷ Opening Brace ∷ Opening
    Parenthesis ∷ Opening Bracket ∷ Opening D.None ∷ TheWord (codes "true") ∷ TheWord (codes "false") ∷ TheWord
    (codes "loop") ∷ TheWord (codes "while") ∷ TheWord (codes "for") ∷ TheWord (codes "static") ∷ TheWord
    (codes "move") ∷ TheWord (codes "const") ∷ TheWord (codes "async") ∷ TheWord (codes "unsafe") ∷ TheWord
    (codes "_") ∷ TheWord (codes "try") ∷ TheWord (codes "if") ∷ TheWord (codes "match") ∷ TheWord (codes "continue")
    ∷ TheWord (codes "break") ∷ TheWord (codes "return") ∷ TheWord (codes "yield") ∷ TheWord (codes "let") ∷ Sign 124
    [] ∷ Sign 38 [] ∷ Sign 42 [] ∷ Sign 33 [] ∷ Sign 45 [] ∷ Sign 46 (46 ∷ 61 ∷ []) ∷ Sign 46 (46 ∷ []) ∷ Sign 60 []
    ∷ AnyWord is_ident ∷ TheWord (codes "Self") ∷ TheWord (codes "self") ∷ TheWord (codes "super") ∷ TheWord
    (codes "crate") ∷ Then 58 (58 ∷ []) (AnyWord is_ident) ∷ Then 58 (58 ∷ []) (TheWord (codes "Self")) ∷ Then 58
    (58 ∷ []) (TheWord (codes "self")) ∷ Then 58 (58 ∷ []) (TheWord (codes "super")) ∷ Then 58 (58 ∷ [])
    (TheWord (codes "crate")) ∷ []
starts (Expression InStatement) = expression_starts
starts (Path InModule) = Then 58 (58 ∷ []) (TheWord (codes "self")) ∷ Then 58 (58 ∷ []) (TheWord (codes "super")) ∷
    Then 58 (58 ∷ []) (TheWord (codes "crate")) ∷ Then 58 (58 ∷ []) (AnyWord is_ident) ∷ Then 58 (58 ∷ [])
    (TheWord (codes "Self")) ∷ TheWord (codes "self") ∷ TheWord (codes "super") ∷ TheWord (codes "crate") ∷ AnyWord
    is_ident ∷ TheWord (codes "Self") ∷ []
starts (Path InExpression) = Then 58 (58 ∷ []) (TheWord (codes "self")) ∷ Then 58 (58 ∷ []) (TheWord (codes "super"))
    ∷ Then 58 (58 ∷ []) (TheWord (codes "crate")) ∷ Then 58 (58 ∷ []) (AnyWord is_ident) ∷ Then 58 (58 ∷ [])
    (TheWord (codes "Self")) ∷ TheWord (codes "self") ∷ TheWord (codes "super") ∷ TheWord (codes "crate") ∷ AnyWord
    is_ident ∷ TheWord (codes "Self") ∷ []
starts (Path InType) = Then 58 (58 ∷ []) (TheWord (codes "self")) ∷ Then 58 (58 ∷ []) (TheWord (codes "super")) ∷
    Then 58 (58 ∷ []) (TheWord (codes "crate")) ∷ Then 58 (58 ∷ []) (AnyWord is_ident) ∷ Then 58 (58 ∷ [])
    (TheWord (codes "Self")) ∷ TheWord (codes "self") ∷ TheWord (codes "super") ∷ TheWord (codes "crate") ∷ AnyWord
    is_ident ∷ TheWord (codes "Self") ∷ []
starts (Path AtType) = Then 58 (58 ∷ []) (TheWord (codes "self")) ∷ Then 58 (58 ∷ []) (TheWord (codes "super")) ∷
    Then 58 (58 ∷ []) (TheWord (codes "crate")) ∷ Then 58 (58 ∷ []) (AnyWord is_ident) ∷ Then 58 (58 ∷ [])
    (TheWord (codes "Self")) ∷ TheWord (codes "self") ∷ TheWord (codes "super") ∷ TheWord (codes "crate") ∷ AnyWord
    is_ident ∷ TheWord (codes "Self") ∷ []
starts (Segments InModule) = TheWord (codes "self") ∷ TheWord (codes "super") ∷ TheWord (codes "crate") ∷ AnyWord
    is_ident ∷ TheWord (codes "Self") ∷ []
starts (Segments InExpression) = TheWord (codes "self") ∷ TheWord (codes "super") ∷ TheWord (codes "crate") ∷ AnyWord
    is_ident ∷ TheWord (codes "Self") ∷ []
starts (Segments InType) = TheWord (codes "self") ∷ TheWord (codes "super") ∷ TheWord (codes "crate") ∷ AnyWord
    is_ident ∷ TheWord (codes "Self") ∷ []
starts (Segments AtType) = TheWord (codes "self") ∷ TheWord (codes "super") ∷ TheWord (codes "crate") ∷ AnyWord
    is_ident ∷ TheWord (codes "Self") ∷ []
starts (Segment InModule) = TheWord (codes "self") ∷ TheWord (codes "super") ∷ TheWord (codes "crate") ∷ AnyWord
    is_ident ∷ TheWord (codes "Self") ∷ []
starts (Segment InExpression) = TheWord (codes "self") ∷ TheWord (codes "super") ∷ TheWord (codes "crate") ∷ AnyWord
    is_ident ∷ TheWord (codes "Self") ∷ []
starts (Segment InType) = TheWord (codes "self") ∷ TheWord (codes "super") ∷ TheWord (codes "crate") ∷ AnyWord
    is_ident ∷ TheWord (codes "Self") ∷ []
starts (Segment AtType) = TheWord (codes "self") ∷ TheWord (codes "super") ∷ TheWord (codes "crate") ∷ AnyWord
    is_ident ∷ TheWord (codes "Self") ∷ []
starts (QualifiedPath InModule) = Sign 60 [] ∷ []
starts (QualifiedPath InExpression) = Sign 60 [] ∷ []
starts (QualifiedPath InType) = Sign 60 [] ∷ []
starts (QualifiedPath AtType) = Sign 60 [] ∷ []
starts (AnyPath InModule) = Sign 60 [] ∷ Then 58 (58 ∷ []) (TheWord (codes "self")) ∷ Then 58 (58 ∷ [])
    (TheWord (codes "super")) ∷ Then 58 (58 ∷ []) (TheWord (codes "crate")) ∷ Then 58 (58 ∷ []) (AnyWord is_ident) ∷
    Then 58 (58 ∷ []) (TheWord (codes "Self")) ∷ TheWord (codes "self") ∷ TheWord (codes "super") ∷ TheWord
    (codes "crate") ∷ AnyWord is_ident ∷ TheWord (codes "Self") ∷ []
starts (AnyPath InExpression) = Sign 60 [] ∷ Then 58 (58 ∷ []) (TheWord (codes "self")) ∷ Then 58 (58 ∷ [])
    (TheWord (codes "super")) ∷ Then 58 (58 ∷ []) (TheWord (codes "crate")) ∷ Then 58 (58 ∷ []) (AnyWord is_ident) ∷
    Then 58 (58 ∷ []) (TheWord (codes "Self")) ∷ TheWord (codes "self") ∷ TheWord (codes "super") ∷ TheWord
    (codes "crate") ∷ AnyWord is_ident ∷ TheWord (codes "Self") ∷ []
starts (AnyPath InType) = Sign 60 [] ∷ Then 58 (58 ∷ []) (TheWord (codes "self")) ∷ Then 58 (58 ∷ [])
    (TheWord (codes "super")) ∷ Then 58 (58 ∷ []) (TheWord (codes "crate")) ∷ Then 58 (58 ∷ []) (AnyWord is_ident) ∷
    Then 58 (58 ∷ []) (TheWord (codes "Self")) ∷ TheWord (codes "self") ∷ TheWord (codes "super") ∷ TheWord
    (codes "crate") ∷ AnyWord is_ident ∷ TheWord (codes "Self") ∷ []
starts (AnyPath AtType) = Sign 60 [] ∷ Then 58 (58 ∷ []) (TheWord (codes "self")) ∷ Then 58 (58 ∷ [])
    (TheWord (codes "super")) ∷ Then 58 (58 ∷ []) (TheWord (codes "crate")) ∷ Then 58 (58 ∷ []) (AnyWord is_ident) ∷
    Then 58 (58 ∷ []) (TheWord (codes "Self")) ∷ TheWord (codes "self") ∷ TheWord (codes "super") ∷ TheWord
    (codes "crate") ∷ AnyWord is_ident ∷ TheWord (codes "Self") ∷ []
starts Arguments = Then 58 (58 ∷ []) (Sign 60 []) ∷ Sign 60 [] ∷ []
starts AnArgument = Tick ∷ Quoted any_text ∷ TheWord (codes "true") ∷ TheWord (codes "false") ∷ Opening Brace ∷
    AnyWord is_ident ∷ Opening Parenthesis ∷ Sign 33 [] ∷ Sign 38 [] ∷ Sign 42 [] ∷ Opening Bracket ∷ TheWord
    (codes "_") ∷ TheWord (codes "dyn") ∷ TheWord (codes "impl") ∷ TheWord (codes "for") ∷ TheWord (codes "unsafe") ∷
    TheWord (codes "extern") ∷ TheWord (codes "fn") ∷ Sign 60 [] ∷ Then 58 (58 ∷ []) (TheWord (codes "self")) ∷ Then
    58 (58 ∷ []) (TheWord (codes "super")) ∷ Then 58 (58 ∷ []) (TheWord (codes "crate")) ∷ Then 58 (58 ∷ [])
    (AnyWord is_ident) ∷ Then 58 (58 ∷ []) (TheWord (codes "Self")) ∷ TheWord (codes "self") ∷ TheWord
    (codes "super") ∷ TheWord (codes "crate") ∷ AnyWord is_ident ∷ TheWord (codes "Self") ∷ []
starts ParenthesizedArguments = Opening Parenthesis ∷ []
starts AMacro = Then 58 (58 ∷ []) (TheWord (codes "self")) ∷ Then 58 (58 ∷ []) (TheWord (codes "super")) ∷ Then 58
    (58 ∷ []) (TheWord (codes "crate")) ∷ Then 58 (58 ∷ []) (AnyWord is_ident) ∷ Then 58 (58 ∷ [])
    (TheWord (codes "Self")) ∷ TheWord (codes "self") ∷ TheWord (codes "super") ∷ TheWord (codes "crate") ∷ AnyWord
    is_ident ∷ TheWord (codes "Self") ∷ []
starts Delimited = Opening Parenthesis ∷ Opening Brace ∷ Opening Bracket ∷ []
starts Member = AnyWord is_ident ∷ Quoted is_index ∷ []
starts Index = Quoted is_index ∷ []
starts (AType WithPlus) = Opening Parenthesis ∷ Sign 33 [] ∷ Sign 38 [] ∷ Sign 42 [] ∷ Opening Bracket ∷ TheWord
    (codes "_") ∷ TheWord (codes "dyn") ∷ TheWord (codes "impl") ∷ TheWord (codes "for") ∷ TheWord (codes "unsafe") ∷
    TheWord (codes "extern") ∷ TheWord (codes "fn") ∷ Sign 60 [] ∷ Then 58 (58 ∷ []) (TheWord (codes "self")) ∷ Then
    58 (58 ∷ []) (TheWord (codes "super")) ∷ Then 58 (58 ∷ []) (TheWord (codes "crate")) ∷ Then 58 (58 ∷ [])
    (AnyWord is_ident) ∷ Then 58 (58 ∷ []) (TheWord (codes "Self")) ∷ TheWord (codes "self") ∷ TheWord
    (codes "super") ∷ TheWord (codes "crate") ∷ AnyWord is_ident ∷ TheWord (codes "Self") ∷ []
starts (AType WithoutPlus) = Opening Parenthesis ∷ Sign 33 [] ∷ Sign 38 [] ∷ Sign 42 [] ∷ Opening Bracket ∷ TheWord
    (codes "_") ∷ TheWord (codes "dyn") ∷ TheWord (codes "impl") ∷ TheWord (codes "for") ∷ TheWord (codes "unsafe") ∷
    TheWord (codes "extern") ∷ TheWord (codes "fn") ∷ Sign 60 [] ∷ Then 58 (58 ∷ []) (TheWord (codes "self")) ∷ Then
    58 (58 ∷ []) (TheWord (codes "super")) ∷ Then 58 (58 ∷ []) (TheWord (codes "crate")) ∷ Then 58 (58 ∷ [])
    (AnyWord is_ident) ∷ Then 58 (58 ∷ []) (TheWord (codes "Self")) ∷ TheWord (codes "self") ∷ TheWord
    (codes "super") ∷ TheWord (codes "crate") ∷ AnyWord is_ident ∷ TheWord (codes "Self") ∷ []
starts (DynType WithPlus) = TheWord (codes "dyn") ∷ []
starts (DynType WithoutPlus) = TheWord (codes "dyn") ∷ []
starts (ImplType WithPlus) = TheWord (codes "impl") ∷ []
starts (ImplType WithoutPlus) = TheWord (codes "impl") ∷ []
starts (ReturnType WithPlus) = Sign 45 (62 ∷ []) ∷ []
starts (ReturnType WithoutPlus) = Sign 45 (62 ∷ []) ∷ []
starts TupleType = Opening Parenthesis ∷ []
starts NeverType = Sign 33 [] ∷ []
starts ReferenceType = Sign 38 [] ∷ []
starts PointerType = Sign 42 [] ∷ []
starts BracketType = Opening Bracket ∷ []
starts InferType = TheWord (codes "_") ∷ []
starts FnPtrType = TheWord (codes "for") ∷ TheWord (codes "unsafe") ∷ TheWord (codes "extern") ∷ TheWord (codes "fn")
    ∷ []
starts FnPtrArg = Then 35 [] (Opening Bracket) ∷ TheWord (codes "_") ∷ AnyWord is_ident ∷ Opening Parenthesis ∷ Sign
    33 [] ∷ Sign 38 [] ∷ Sign 42 [] ∷ Opening Bracket ∷ TheWord (codes "_") ∷ TheWord (codes "dyn") ∷ TheWord
    (codes "impl") ∷ TheWord (codes "for") ∷ TheWord (codes "unsafe") ∷ TheWord (codes "extern") ∷ TheWord
    (codes "fn") ∷ Sign 60 [] ∷ Then 58 (58 ∷ []) (TheWord (codes "self")) ∷ Then 58 (58 ∷ [])
    (TheWord (codes "super")) ∷ Then 58 (58 ∷ []) (TheWord (codes "crate")) ∷ Then 58 (58 ∷ []) (AnyWord is_ident) ∷
    Then 58 (58 ∷ []) (TheWord (codes "Self")) ∷ TheWord (codes "self") ∷ TheWord (codes "super") ∷ TheWord
    (codes "crate") ∷ AnyWord is_ident ∷ TheWord (codes "Self") ∷ []
starts SomeBounds = Tick ∷ Sign 63 [] ∷ TheWord (codes "for") ∷ Then 58 (58 ∷ []) (TheWord (codes "self")) ∷ Then 58
    (58 ∷ []) (TheWord (codes "super")) ∷ Then 58 (58 ∷ []) (TheWord (codes "crate")) ∷ Then 58 (58 ∷ [])
    (AnyWord is_ident) ∷ Then 58 (58 ∷ []) (TheWord (codes "Self")) ∷ TheWord (codes "self") ∷ TheWord
    (codes "super") ∷ TheWord (codes "crate") ∷ AnyWord is_ident ∷ TheWord (codes "Self") ∷ []
starts Bounds = Tick ∷ Sign 63 [] ∷ TheWord (codes "for") ∷ Then 58 (58 ∷ []) (TheWord (codes "self")) ∷ Then 58
    (58 ∷ []) (TheWord (codes "super")) ∷ Then 58 (58 ∷ []) (TheWord (codes "crate")) ∷ Then 58 (58 ∷ [])
    (AnyWord is_ident) ∷ Then 58 (58 ∷ []) (TheWord (codes "Self")) ∷ TheWord (codes "self") ∷ TheWord
    (codes "super") ∷ TheWord (codes "crate") ∷ AnyWord is_ident ∷ TheWord (codes "Self") ∷ []
starts Bound = Tick ∷ Sign 63 [] ∷ TheWord (codes "for") ∷ Then 58 (58 ∷ []) (TheWord (codes "self")) ∷ Then 58
    (58 ∷ []) (TheWord (codes "super")) ∷ Then 58 (58 ∷ []) (TheWord (codes "crate")) ∷ Then 58 (58 ∷ [])
    (AnyWord is_ident) ∷ Then 58 (58 ∷ []) (TheWord (codes "Self")) ∷ TheWord (codes "self") ∷ TheWord
    (codes "super") ∷ TheWord (codes "crate") ∷ AnyWord is_ident ∷ TheWord (codes "Self") ∷ []
starts TraitPath = Sign 63 [] ∷ TheWord (codes "for") ∷ Then 58 (58 ∷ []) (TheWord (codes "self")) ∷ Then 58
    (58 ∷ []) (TheWord (codes "super")) ∷ Then 58 (58 ∷ []) (TheWord (codes "crate")) ∷ Then 58 (58 ∷ [])
    (AnyWord is_ident) ∷ Then 58 (58 ∷ []) (TheWord (codes "Self")) ∷ TheWord (codes "self") ∷ TheWord
    (codes "super") ∷ TheWord (codes "crate") ∷ AnyWord is_ident ∷ TheWord (codes "Self") ∷ []
starts BoundLifetimes = TheWord (codes "for") ∷ []
starts Lifetimes = Tick ∷ []
starts Abi = TheWord (codes "extern") ∷ []
starts Pattern = pattern_starts
starts SeveralPatterns = TheWord (codes "ref") ∷ TheWord (codes "mut") ∷ AnyWord is_ident ∷ TheWord (codes "_") ∷
    Then 46 (46 ∷ 61 ∷ []) (Sign 45 []) ∷ Then 46 (46 ∷ 61 ∷ []) (Quoted any_text) ∷ Then 46 (46 ∷ 61 ∷ [])
    (TheWord (codes "true")) ∷ Then 46 (46 ∷ 61 ∷ []) (TheWord (codes "false")) ∷ Then 46 (46 ∷ 61 ∷ []) (Sign 60 [])
    ∷ Then 46 (46 ∷ 61 ∷ []) (Then 58 (58 ∷ []) (TheWord (codes "self"))) ∷ Then 46 (46 ∷ 61 ∷ [])
    (Then 58 (58 ∷ []) (TheWord (codes "super"))) ∷ Then 46 (46 ∷ 61 ∷ [])
    (Then 58 (58 ∷ []) (TheWord (codes "crate"))) ∷ Then 46 (46 ∷ 61 ∷ []) (Then 58 (58 ∷ []) (AnyWord is_ident)) ∷
    Then 46 (46 ∷ 61 ∷ []) (Then 58 (58 ∷ []) (TheWord (codes "Self"))) ∷ Then 46 (46 ∷ 61 ∷ [])
    (TheWord (codes "self")) ∷ Then 46 (46 ∷ 61 ∷ []) (TheWord (codes "super")) ∷ Then 46 (46 ∷ 61 ∷ [])
    (TheWord (codes "crate")) ∷ Then 46 (46 ∷ 61 ∷ []) (AnyWord is_ident) ∷ Then 46 (46 ∷ 61 ∷ [])
    (TheWord (codes "Self")) ∷ Then 46 (46 ∷ []) (Sign 45 []) ∷ Then 46 (46 ∷ []) (Quoted any_text) ∷ Then 46
    (46 ∷ []) (TheWord (codes "true")) ∷ Then 46 (46 ∷ []) (TheWord (codes "false")) ∷ Then 46 (46 ∷ []) (Sign 60 [])
    ∷ Then 46 (46 ∷ []) (Then 58 (58 ∷ []) (TheWord (codes "self"))) ∷ Then 46 (46 ∷ [])
    (Then 58 (58 ∷ []) (TheWord (codes "super"))) ∷ Then 46 (46 ∷ []) (Then 58 (58 ∷ []) (TheWord (codes "crate"))) ∷
    Then 46 (46 ∷ []) (Then 58 (58 ∷ []) (AnyWord is_ident)) ∷ Then 46 (46 ∷ [])
    (Then 58 (58 ∷ []) (TheWord (codes "Self"))) ∷ Then 46 (46 ∷ []) (TheWord (codes "self")) ∷ Then 46 (46 ∷ [])
    (TheWord (codes "super")) ∷ Then 46 (46 ∷ []) (TheWord (codes "crate")) ∷ Then 46 (46 ∷ []) (AnyWord is_ident) ∷
    Then 46 (46 ∷ []) (TheWord (codes "Self")) ∷ Sign 46 (46 ∷ []) ∷ Opening Parenthesis ∷ Opening Bracket ∷ Sign 38
    [] ∷ Sign 45 [] ∷ Quoted any_text ∷ TheWord (codes "true") ∷ TheWord (codes "false") ∷ Sign 60 [] ∷ Then 58
    (58 ∷ []) (TheWord (codes "self")) ∷ Then 58 (58 ∷ []) (TheWord (codes "super")) ∷ Then 58 (58 ∷ [])
    (TheWord (codes "crate")) ∷ Then 58 (58 ∷ []) (AnyWord is_ident) ∷ Then 58 (58 ∷ []) (TheWord (codes "Self")) ∷
    TheWord (codes "self") ∷ TheWord (codes "super") ∷ TheWord (codes "crate") ∷ AnyWord is_ident ∷ TheWord
    (codes "Self") ∷ []
starts OnePattern = TheWord (codes "ref") ∷ TheWord (codes "mut") ∷ AnyWord is_ident ∷ TheWord (codes "_") ∷ Then 46
    (46 ∷ 61 ∷ []) (Sign 45 []) ∷ Then 46 (46 ∷ 61 ∷ []) (Quoted any_text) ∷ Then 46 (46 ∷ 61 ∷ [])
    (TheWord (codes "true")) ∷ Then 46 (46 ∷ 61 ∷ []) (TheWord (codes "false")) ∷ Then 46 (46 ∷ 61 ∷ []) (Sign 60 [])
    ∷ Then 46 (46 ∷ 61 ∷ []) (Then 58 (58 ∷ []) (TheWord (codes "self"))) ∷ Then 46 (46 ∷ 61 ∷ [])
    (Then 58 (58 ∷ []) (TheWord (codes "super"))) ∷ Then 46 (46 ∷ 61 ∷ [])
    (Then 58 (58 ∷ []) (TheWord (codes "crate"))) ∷ Then 46 (46 ∷ 61 ∷ []) (Then 58 (58 ∷ []) (AnyWord is_ident)) ∷
    Then 46 (46 ∷ 61 ∷ []) (Then 58 (58 ∷ []) (TheWord (codes "Self"))) ∷ Then 46 (46 ∷ 61 ∷ [])
    (TheWord (codes "self")) ∷ Then 46 (46 ∷ 61 ∷ []) (TheWord (codes "super")) ∷ Then 46 (46 ∷ 61 ∷ [])
    (TheWord (codes "crate")) ∷ Then 46 (46 ∷ 61 ∷ []) (AnyWord is_ident) ∷ Then 46 (46 ∷ 61 ∷ [])
    (TheWord (codes "Self")) ∷ Then 46 (46 ∷ []) (Sign 45 []) ∷ Then 46 (46 ∷ []) (Quoted any_text) ∷ Then 46
    (46 ∷ []) (TheWord (codes "true")) ∷ Then 46 (46 ∷ []) (TheWord (codes "false")) ∷ Then 46 (46 ∷ []) (Sign 60 [])
    ∷ Then 46 (46 ∷ []) (Then 58 (58 ∷ []) (TheWord (codes "self"))) ∷ Then 46 (46 ∷ [])
    (Then 58 (58 ∷ []) (TheWord (codes "super"))) ∷ Then 46 (46 ∷ []) (Then 58 (58 ∷ []) (TheWord (codes "crate"))) ∷
    Then 46 (46 ∷ []) (Then 58 (58 ∷ []) (AnyWord is_ident)) ∷ Then 46 (46 ∷ [])
    (Then 58 (58 ∷ []) (TheWord (codes "Self"))) ∷ Then 46 (46 ∷ []) (TheWord (codes "self")) ∷ Then 46 (46 ∷ [])
    (TheWord (codes "super")) ∷ Then 46 (46 ∷ []) (TheWord (codes "crate")) ∷ Then 46 (46 ∷ []) (AnyWord is_ident) ∷
    Then 46 (46 ∷ []) (TheWord (codes "Self")) ∷ Sign 46 (46 ∷ []) ∷ Opening Parenthesis ∷ Opening Bracket ∷ Sign 38
    [] ∷ Sign 45 [] ∷ Quoted any_text ∷ TheWord (codes "true") ∷ TheWord (codes "false") ∷ Sign 60 [] ∷ Then 58
    (58 ∷ []) (TheWord (codes "self")) ∷ Then 58 (58 ∷ []) (TheWord (codes "super")) ∷ Then 58 (58 ∷ [])
    (TheWord (codes "crate")) ∷ Then 58 (58 ∷ []) (AnyWord is_ident) ∷ Then 58 (58 ∷ []) (TheWord (codes "Self")) ∷
    TheWord (codes "self") ∷ TheWord (codes "super") ∷ TheWord (codes "crate") ∷ AnyWord is_ident ∷ TheWord
    (codes "Self") ∷ []
starts IdentPattern = TheWord (codes "ref") ∷ TheWord (codes "mut") ∷ AnyWord is_ident ∷ []
starts WildPattern = TheWord (codes "_") ∷ []
starts RangeToPattern = Then 46 (46 ∷ 61 ∷ []) (Sign 45 []) ∷ Then 46 (46 ∷ 61 ∷ []) (Quoted any_text) ∷ Then 46
    (46 ∷ 61 ∷ []) (TheWord (codes "true")) ∷ Then 46 (46 ∷ 61 ∷ []) (TheWord (codes "false")) ∷ Then 46
    (46 ∷ 61 ∷ []) (Sign 60 []) ∷ Then 46 (46 ∷ 61 ∷ []) (Then 58 (58 ∷ []) (TheWord (codes "self"))) ∷ Then 46
    (46 ∷ 61 ∷ []) (Then 58 (58 ∷ []) (TheWord (codes "super"))) ∷ Then 46 (46 ∷ 61 ∷ [])
    (Then 58 (58 ∷ []) (TheWord (codes "crate"))) ∷ Then 46 (46 ∷ 61 ∷ []) (Then 58 (58 ∷ []) (AnyWord is_ident)) ∷
    Then 46 (46 ∷ 61 ∷ []) (Then 58 (58 ∷ []) (TheWord (codes "Self"))) ∷ Then 46 (46 ∷ 61 ∷ [])
    (TheWord (codes "self")) ∷ Then 46 (46 ∷ 61 ∷ []) (TheWord (codes "super")) ∷ Then 46 (46 ∷ 61 ∷ [])
    (TheWord (codes "crate")) ∷ Then 46 (46 ∷ 61 ∷ []) (AnyWord is_ident) ∷ Then 46 (46 ∷ 61 ∷ [])
    (TheWord (codes "Self")) ∷ Then 46 (46 ∷ []) (Sign 45 []) ∷ Then 46 (46 ∷ []) (Quoted any_text) ∷ Then 46
    (46 ∷ []) (TheWord (codes "true")) ∷ Then 46 (46 ∷ []) (TheWord (codes "false")) ∷ Then 46 (46 ∷ []) (Sign 60 [])
    ∷ Then 46 (46 ∷ []) (Then 58 (58 ∷ []) (TheWord (codes "self"))) ∷ Then 46 (46 ∷ [])
    (Then 58 (58 ∷ []) (TheWord (codes "super"))) ∷ Then 46 (46 ∷ []) (Then 58 (58 ∷ []) (TheWord (codes "crate"))) ∷
    Then 46 (46 ∷ []) (Then 58 (58 ∷ []) (AnyWord is_ident)) ∷ Then 46 (46 ∷ [])
    (Then 58 (58 ∷ []) (TheWord (codes "Self"))) ∷ Then 46 (46 ∷ []) (TheWord (codes "self")) ∷ Then 46 (46 ∷ [])
    (TheWord (codes "super")) ∷ Then 46 (46 ∷ []) (TheWord (codes "crate")) ∷ Then 46 (46 ∷ []) (AnyWord is_ident) ∷
    Then 46 (46 ∷ []) (TheWord (codes "Self")) ∷ []
starts RestPattern = Sign 46 (46 ∷ []) ∷ []
starts TuplePattern = Opening Parenthesis ∷ []
starts SlicePattern = Opening Bracket ∷ []
starts ReferencePattern = Sign 38 [] ∷ []
starts LiteralPattern = Sign 45 [] ∷ Quoted any_text ∷ TheWord (codes "true") ∷ TheWord (codes "false") ∷ []
starts PathPattern = Sign 60 [] ∷ Then 58 (58 ∷ []) (TheWord (codes "self")) ∷ Then 58 (58 ∷ [])
    (TheWord (codes "super")) ∷ Then 58 (58 ∷ []) (TheWord (codes "crate")) ∷ Then 58 (58 ∷ []) (AnyWord is_ident) ∷
    Then 58 (58 ∷ []) (TheWord (codes "Self")) ∷ TheWord (codes "self") ∷ TheWord (codes "super") ∷ TheWord
    (codes "crate") ∷ AnyWord is_ident ∷ TheWord (codes "Self") ∷ []
starts RangeEnd = Sign 46 (46 ∷ 61 ∷ []) ∷ Sign 46 (46 ∷ []) ∷ []
starts RangeBound = Sign 45 [] ∷ Quoted any_text ∷ TheWord (codes "true") ∷ TheWord (codes "false") ∷ Sign 60 [] ∷
    Then 58 (58 ∷ []) (TheWord (codes "self")) ∷ Then 58 (58 ∷ []) (TheWord (codes "super")) ∷ Then 58 (58 ∷ [])
    (TheWord (codes "crate")) ∷ Then 58 (58 ∷ []) (AnyWord is_ident) ∷ Then 58 (58 ∷ []) (TheWord (codes "Self")) ∷
    TheWord (codes "self") ∷ TheWord (codes "super") ∷ TheWord (codes "crate") ∷ AnyWord is_ident ∷ TheWord
    (codes "Self") ∷ []
starts FieldPatterns = Opening Brace ∷ []
starts FieldPattern = Then 35 [] (Opening Bracket) ∷ Sign 46 (46 ∷ []) ∷ AnyWord is_ident ∷ Quoted is_index ∷ TheWord
    (codes "ref") ∷ TheWord (codes "mut") ∷ AnyWord is_ident ∷ []
starts OuterAttributes = Then 35 [] (Opening Bracket) ∷ []
starts OuterAttribute = Then 35 [] (Opening Bracket) ∷ []
starts InnerAttributes = Then 35 [] (Sign 33 []) ∷ []
starts InnerAttribute = Then 35 [] (Sign 33 []) ∷ []
starts Meta = TheWord (codes "unsafe") ∷ Then 58 (58 ∷ []) (TheWord (codes "self")) ∷ Then 58 (58 ∷ [])
    (TheWord (codes "super")) ∷ Then 58 (58 ∷ []) (TheWord (codes "crate")) ∷ Then 58 (58 ∷ []) (AnyWord is_ident) ∷
    Then 58 (58 ∷ []) (TheWord (codes "Self")) ∷ TheWord (codes "self") ∷ TheWord (codes "super") ∷ TheWord
    (codes "crate") ∷ AnyWord is_ident ∷ TheWord (codes "Self") ∷ []
starts Generics = Sign 60 [] ∷ []
starts ImplGenerics = Sign 60 [] ∷ []
starts GenericParams = Then 35 [] (Opening Bracket) ∷ Tick ∷ Then 35 [] (Opening Bracket) ∷ TheWord (codes "const") ∷
    Then 35 [] (Opening Bracket) ∷ AnyWord is_ident ∷ []
starts GenericParam = Then 35 [] (Opening Bracket) ∷ Tick ∷ Then 35 [] (Opening Bracket) ∷ TheWord (codes "const") ∷
    Then 35 [] (Opening Bracket) ∷ AnyWord is_ident ∷ []
starts LifetimeParam = Then 35 [] (Opening Bracket) ∷ Tick ∷ []
starts LifetimeColon = Sign 58 [] ∷ []
starts ConstParam = Then 35 [] (Opening Bracket) ∷ TheWord (codes "const") ∷ []
starts TypeParam = Then 35 [] (Opening Bracket) ∷ AnyWord is_ident ∷ []
starts BoundsColon = Sign 58 [] ∷ []
starts Where = TheWord (codes "where") ∷ []
starts WhereClause = TheWord (codes "where") ∷ []
starts WherePredicate = Tick ∷ TheWord (codes "for") ∷ Opening Parenthesis ∷ Sign 33 [] ∷ Sign 38 [] ∷ Sign 42 [] ∷
    Opening Bracket ∷ TheWord (codes "_") ∷ TheWord (codes "dyn") ∷ TheWord (codes "impl") ∷ TheWord (codes "for") ∷
    TheWord (codes "unsafe") ∷ TheWord (codes "extern") ∷ TheWord (codes "fn") ∷ Sign 60 [] ∷ Then 58 (58 ∷ [])
    (TheWord (codes "self")) ∷ Then 58 (58 ∷ []) (TheWord (codes "super")) ∷ Then 58 (58 ∷ [])
    (TheWord (codes "crate")) ∷ Then 58 (58 ∷ []) (AnyWord is_ident) ∷ Then 58 (58 ∷ []) (TheWord (codes "Self")) ∷
    TheWord (codes "self") ∷ TheWord (codes "super") ∷ TheWord (codes "crate") ∷ AnyWord is_ident ∷ TheWord
    (codes "Self") ∷ []
starts Visibility = TheWord (codes "pub") ∷ []
starts NamedFields = Opening Brace ∷ []
starts UnnamedFields = Opening Parenthesis ∷ []
starts NamedField = Then 35 [] (Opening Bracket) ∷ TheWord (codes "pub") ∷ TheWord (codes "_") ∷ AnyWord is_ident ∷ []
starts UnnamedField = Then 35 [] (Opening Bracket) ∷ TheWord (codes "pub") ∷ Opening Parenthesis ∷ Sign 33 [] ∷ Sign
    38 [] ∷ Sign 42 [] ∷ Opening Bracket ∷ TheWord (codes "_") ∷ TheWord (codes "dyn") ∷ TheWord (codes "impl") ∷
    TheWord (codes "for") ∷ TheWord (codes "unsafe") ∷ TheWord (codes "extern") ∷ TheWord (codes "fn") ∷ Sign 60 [] ∷
    Then 58 (58 ∷ []) (TheWord (codes "self")) ∷ Then 58 (58 ∷ []) (TheWord (codes "super")) ∷ Then 58 (58 ∷ [])
    (TheWord (codes "crate")) ∷ Then 58 (58 ∷ []) (AnyWord is_ident) ∷ Then 58 (58 ∷ []) (TheWord (codes "Self")) ∷
    TheWord (codes "self") ∷ TheWord (codes "super") ∷ TheWord (codes "crate") ∷ AnyWord is_ident ∷ TheWord
    (codes "Self") ∷ []
starts Variant = Then 35 [] (Opening Bracket) ∷ AnyWord is_ident ∷ []
starts AStruct = TheWord (codes "struct") ∷ []
starts AnEnum = TheWord (codes "enum") ∷ []
starts AUnion = TheWord (codes "union") ∷ []
starts AStatic = TheWord (codes "static") ∷ []
starts AConst = TheWord (codes "const") ∷ []
starts AnExternCrate = TheWord (codes "extern") ∷ []
starts AUse = TheWord (codes "use") ∷ []
starts UseTop = Then 58 (58 ∷ []) (Opening Brace) ∷ Then 58 (58 ∷ []) (Sign 42 []) ∷ Then 58 (58 ∷ [])
    (TheWord (codes "self")) ∷ Then 58 (58 ∷ []) (TheWord (codes "super")) ∷ Then 58 (58 ∷ [])
    (TheWord (codes "crate")) ∷ Then 58 (58 ∷ []) (TheWord (codes "try")) ∷ Then 58 (58 ∷ []) (AnyWord is_ident) ∷
    Opening Brace ∷ Sign 42 [] ∷ TheWord (codes "self") ∷ TheWord (codes "super") ∷ TheWord (codes "crate") ∷ TheWord
    (codes "try") ∷ AnyWord is_ident ∷ []
starts UseTree = Opening Brace ∷ Sign 42 [] ∷ TheWord (codes "self") ∷ TheWord (codes "super") ∷ TheWord
    (codes "crate") ∷ TheWord (codes "try") ∷ AnyWord is_ident ∷ []
starts UseBranch = Sign 42 [] ∷ TheWord (codes "self") ∷ TheWord (codes "super") ∷ TheWord (codes "crate") ∷ TheWord
    (codes "try") ∷ AnyWord is_ident ∷ []
starts UseRooted = Opening Brace ∷ Sign 42 [] ∷ TheWord (codes "self") ∷ TheWord (codes "super") ∷ TheWord
    (codes "crate") ∷ TheWord (codes "try") ∷ AnyWord is_ident ∷ []
starts Parameters = Opening Parenthesis ∷ []
starts Parameter = Then 35 [] (Opening Bracket) ∷ Sign 38 [] ∷ TheWord (codes "mut") ∷ TheWord (codes "self") ∷ Sign
    46 (46 ∷ 46 ∷ []) ∷ Opening Parenthesis ∷ Sign 33 [] ∷ Sign 38 [] ∷ Sign 42 [] ∷ Opening Bracket ∷ TheWord
    (codes "_") ∷ TheWord (codes "dyn") ∷ TheWord (codes "impl") ∷ TheWord (codes "for") ∷ TheWord (codes "unsafe") ∷
    TheWord (codes "extern") ∷ TheWord (codes "fn") ∷ Sign 60 [] ∷ Then 58 (58 ∷ []) (TheWord (codes "self")) ∷ Then
    58 (58 ∷ []) (TheWord (codes "super")) ∷ Then 58 (58 ∷ []) (TheWord (codes "crate")) ∷ Then 58 (58 ∷ [])
    (AnyWord is_ident) ∷ Then 58 (58 ∷ []) (TheWord (codes "Self")) ∷ TheWord (codes "self") ∷ TheWord
    (codes "super") ∷ TheWord (codes "crate") ∷ AnyWord is_ident ∷ TheWord (codes "Self") ∷ TheWord (codes "ref") ∷
    TheWord (codes "mut") ∷ AnyWord is_ident ∷ TheWord (codes "_") ∷ Then 46 (46 ∷ 61 ∷ []) (Sign 45 []) ∷ Then 46
    (46 ∷ 61 ∷ []) (Quoted any_text) ∷ Then 46 (46 ∷ 61 ∷ []) (TheWord (codes "true")) ∷ Then 46 (46 ∷ 61 ∷ [])
    (TheWord (codes "false")) ∷ Then 46 (46 ∷ 61 ∷ []) (Sign 60 []) ∷ Then 46 (46 ∷ 61 ∷ [])
    (Then 58 (58 ∷ []) (TheWord (codes "self"))) ∷ Then 46 (46 ∷ 61 ∷ [])
    (Then 58 (58 ∷ []) (TheWord (codes "super"))) ∷ Then 46 (46 ∷ 61 ∷ [])
    (Then 58 (58 ∷ []) (TheWord (codes "crate"))) ∷ Then 46 (46 ∷ 61 ∷ []) (Then 58 (58 ∷ []) (AnyWord is_ident)) ∷
    Then 46 (46 ∷ 61 ∷ []) (Then 58 (58 ∷ []) (TheWord (codes "Self"))) ∷ Then 46 (46 ∷ 61 ∷ [])
    (TheWord (codes "self")) ∷ Then 46 (46 ∷ 61 ∷ []) (TheWord (codes "super")) ∷ Then 46 (46 ∷ 61 ∷ [])
    (TheWord (codes "crate")) ∷ Then 46 (46 ∷ 61 ∷ []) (AnyWord is_ident) ∷ Then 46 (46 ∷ 61 ∷ [])
    (TheWord (codes "Self")) ∷ Then 46 (46 ∷ []) (Sign 45 []) ∷ Then 46 (46 ∷ []) (Quoted any_text) ∷ Then 46
    (46 ∷ []) (TheWord (codes "true")) ∷ Then 46 (46 ∷ []) (TheWord (codes "false")) ∷ Then 46 (46 ∷ []) (Sign 60 [])
    ∷ Then 46 (46 ∷ []) (Then 58 (58 ∷ []) (TheWord (codes "self"))) ∷ Then 46 (46 ∷ [])
    (Then 58 (58 ∷ []) (TheWord (codes "super"))) ∷ Then 46 (46 ∷ []) (Then 58 (58 ∷ []) (TheWord (codes "crate"))) ∷
    Then 46 (46 ∷ []) (Then 58 (58 ∷ []) (AnyWord is_ident)) ∷ Then 46 (46 ∷ [])
    (Then 58 (58 ∷ []) (TheWord (codes "Self"))) ∷ Then 46 (46 ∷ []) (TheWord (codes "self")) ∷ Then 46 (46 ∷ [])
    (TheWord (codes "super")) ∷ Then 46 (46 ∷ []) (TheWord (codes "crate")) ∷ Then 46 (46 ∷ []) (AnyWord is_ident) ∷
    Then 46 (46 ∷ []) (TheWord (codes "Self")) ∷ Sign 46 (46 ∷ []) ∷ Opening Parenthesis ∷ Opening Bracket ∷ Sign 38
    [] ∷ Sign 45 [] ∷ Quoted any_text ∷ TheWord (codes "true") ∷ TheWord (codes "false") ∷ Sign 60 [] ∷ Then 58
    (58 ∷ []) (TheWord (codes "self")) ∷ Then 58 (58 ∷ []) (TheWord (codes "super")) ∷ Then 58 (58 ∷ [])
    (TheWord (codes "crate")) ∷ Then 58 (58 ∷ []) (AnyWord is_ident) ∷ Then 58 (58 ∷ []) (TheWord (codes "Self")) ∷
    TheWord (codes "self") ∷ TheWord (codes "super") ∷ TheWord (codes "crate") ∷ AnyWord is_ident ∷ TheWord
    (codes "Self") ∷ []
starts FnArg = Then 35 [] (Opening Bracket) ∷ Sign 38 [] ∷ TheWord (codes "mut") ∷ TheWord (codes "self") ∷ Sign 46
    (46 ∷ 46 ∷ []) ∷ Opening Parenthesis ∷ Sign 33 [] ∷ Sign 38 [] ∷ Sign 42 [] ∷ Opening Bracket ∷ TheWord
    (codes "_") ∷ TheWord (codes "dyn") ∷ TheWord (codes "impl") ∷ TheWord (codes "for") ∷ TheWord (codes "unsafe") ∷
    TheWord (codes "extern") ∷ TheWord (codes "fn") ∷ Sign 60 [] ∷ Then 58 (58 ∷ []) (TheWord (codes "self")) ∷ Then
    58 (58 ∷ []) (TheWord (codes "super")) ∷ Then 58 (58 ∷ []) (TheWord (codes "crate")) ∷ Then 58 (58 ∷ [])
    (AnyWord is_ident) ∷ Then 58 (58 ∷ []) (TheWord (codes "Self")) ∷ TheWord (codes "self") ∷ TheWord
    (codes "super") ∷ TheWord (codes "crate") ∷ AnyWord is_ident ∷ TheWord (codes "Self") ∷ TheWord (codes "ref") ∷
    TheWord (codes "mut") ∷ AnyWord is_ident ∷ TheWord (codes "_") ∷ Then 46 (46 ∷ 61 ∷ []) (Sign 45 []) ∷ Then 46
    (46 ∷ 61 ∷ []) (Quoted any_text) ∷ Then 46 (46 ∷ 61 ∷ []) (TheWord (codes "true")) ∷ Then 46 (46 ∷ 61 ∷ [])
    (TheWord (codes "false")) ∷ Then 46 (46 ∷ 61 ∷ []) (Sign 60 []) ∷ Then 46 (46 ∷ 61 ∷ [])
    (Then 58 (58 ∷ []) (TheWord (codes "self"))) ∷ Then 46 (46 ∷ 61 ∷ [])
    (Then 58 (58 ∷ []) (TheWord (codes "super"))) ∷ Then 46 (46 ∷ 61 ∷ [])
    (Then 58 (58 ∷ []) (TheWord (codes "crate"))) ∷ Then 46 (46 ∷ 61 ∷ []) (Then 58 (58 ∷ []) (AnyWord is_ident)) ∷
    Then 46 (46 ∷ 61 ∷ []) (Then 58 (58 ∷ []) (TheWord (codes "Self"))) ∷ Then 46 (46 ∷ 61 ∷ [])
    (TheWord (codes "self")) ∷ Then 46 (46 ∷ 61 ∷ []) (TheWord (codes "super")) ∷ Then 46 (46 ∷ 61 ∷ [])
    (TheWord (codes "crate")) ∷ Then 46 (46 ∷ 61 ∷ []) (AnyWord is_ident) ∷ Then 46 (46 ∷ 61 ∷ [])
    (TheWord (codes "Self")) ∷ Then 46 (46 ∷ []) (Sign 45 []) ∷ Then 46 (46 ∷ []) (Quoted any_text) ∷ Then 46
    (46 ∷ []) (TheWord (codes "true")) ∷ Then 46 (46 ∷ []) (TheWord (codes "false")) ∷ Then 46 (46 ∷ []) (Sign 60 [])
    ∷ Then 46 (46 ∷ []) (Then 58 (58 ∷ []) (TheWord (codes "self"))) ∷ Then 46 (46 ∷ [])
    (Then 58 (58 ∷ []) (TheWord (codes "super"))) ∷ Then 46 (46 ∷ []) (Then 58 (58 ∷ []) (TheWord (codes "crate"))) ∷
    Then 46 (46 ∷ []) (Then 58 (58 ∷ []) (AnyWord is_ident)) ∷ Then 46 (46 ∷ [])
    (Then 58 (58 ∷ []) (TheWord (codes "Self"))) ∷ Then 46 (46 ∷ []) (TheWord (codes "self")) ∷ Then 46 (46 ∷ [])
    (TheWord (codes "super")) ∷ Then 46 (46 ∷ []) (TheWord (codes "crate")) ∷ Then 46 (46 ∷ []) (AnyWord is_ident) ∷
    Then 46 (46 ∷ []) (TheWord (codes "Self")) ∷ Sign 46 (46 ∷ []) ∷ Opening Parenthesis ∷ Opening Bracket ∷ Sign 38
    [] ∷ Sign 45 [] ∷ Quoted any_text ∷ TheWord (codes "true") ∷ TheWord (codes "false") ∷ Sign 60 [] ∷ Then 58
    (58 ∷ []) (TheWord (codes "self")) ∷ Then 58 (58 ∷ []) (TheWord (codes "super")) ∷ Then 58 (58 ∷ [])
    (TheWord (codes "crate")) ∷ Then 58 (58 ∷ []) (AnyWord is_ident) ∷ Then 58 (58 ∷ []) (TheWord (codes "Self")) ∷
    TheWord (codes "self") ∷ TheWord (codes "super") ∷ TheWord (codes "crate") ∷ AnyWord is_ident ∷ TheWord
    (codes "Self") ∷ []
starts Receiver = Sign 38 [] ∷ TheWord (codes "mut") ∷ TheWord (codes "self") ∷ []
starts (Signature InFile) = TheWord (codes "const") ∷ TheWord (codes "async") ∷ TheWord (codes "unsafe") ∷ TheWord
    (codes "extern") ∷ TheWord (codes "fn") ∷ []
starts (Signature InForeign) = TheWord (codes "const") ∷ TheWord (codes "async") ∷ TheWord (codes "unsafe") ∷ TheWord
    (codes "safe") ∷ TheWord (codes "extern") ∷ TheWord (codes "fn") ∷ []
starts (Signature InTrait) = TheWord (codes "const") ∷ TheWord (codes "async") ∷ TheWord (codes "unsafe") ∷ TheWord
    (codes "extern") ∷ TheWord (codes "fn") ∷ []
starts (Signature InImpl) = TheWord (codes "const") ∷ TheWord (codes "async") ∷ TheWord (codes "unsafe") ∷ TheWord
    (codes "extern") ∷ TheWord (codes "fn") ∷ []
starts (AFunction InFile) = TheWord (codes "const") ∷ TheWord (codes "async") ∷ TheWord (codes "unsafe") ∷ TheWord
    (codes "extern") ∷ TheWord (codes "fn") ∷ []
starts (AFunction InForeign) = TheWord (codes "const") ∷ TheWord (codes "async") ∷ TheWord (codes "unsafe") ∷ TheWord
    (codes "safe") ∷ TheWord (codes "extern") ∷ TheWord (codes "fn") ∷ []
starts (AFunction InTrait) = TheWord (codes "const") ∷ TheWord (codes "async") ∷ TheWord (codes "unsafe") ∷ TheWord
    (codes "extern") ∷ TheWord (codes "fn") ∷ []
starts (AFunction InImpl) = TheWord (codes "const") ∷ TheWord (codes "async") ∷ TheWord (codes "unsafe") ∷ TheWord
    (codes "extern") ∷ TheWord (codes "fn") ∷ []
starts (ATypeAlias InFile) = TheWord (codes "type") ∷ []
starts (ATypeAlias InForeign) = TheWord (codes "type") ∷ []
starts (ATypeAlias InTrait) = TheWord (codes "type") ∷ []
starts (ATypeAlias InImpl) = TheWord (codes "type") ∷ []
starts (ItemMacro InFile) = Then 58 (58 ∷ []) (TheWord (codes "self")) ∷ Then 58 (58 ∷ []) (TheWord (codes "super"))
    ∷ Then 58 (58 ∷ []) (TheWord (codes "crate")) ∷ Then 58 (58 ∷ []) (AnyWord is_ident) ∷ Then 58 (58 ∷ [])
    (TheWord (codes "Self")) ∷ TheWord (codes "self") ∷ TheWord (codes "super") ∷ TheWord (codes "crate") ∷ AnyWord
    is_ident ∷ TheWord (codes "Self") ∷ []
starts (ItemMacro InForeign) = Then 58 (58 ∷ []) (TheWord (codes "self")) ∷ Then 58 (58 ∷ [])
    (TheWord (codes "super")) ∷ Then 58 (58 ∷ []) (TheWord (codes "crate")) ∷ Then 58 (58 ∷ []) (AnyWord is_ident) ∷
    Then 58 (58 ∷ []) (TheWord (codes "Self")) ∷ TheWord (codes "self") ∷ TheWord (codes "super") ∷ TheWord
    (codes "crate") ∷ AnyWord is_ident ∷ TheWord (codes "Self") ∷ []
starts (ItemMacro InTrait) = Then 58 (58 ∷ []) (TheWord (codes "self")) ∷ Then 58 (58 ∷ []) (TheWord (codes "super"))
    ∷ Then 58 (58 ∷ []) (TheWord (codes "crate")) ∷ Then 58 (58 ∷ []) (AnyWord is_ident) ∷ Then 58 (58 ∷ [])
    (TheWord (codes "Self")) ∷ TheWord (codes "self") ∷ TheWord (codes "super") ∷ TheWord (codes "crate") ∷ AnyWord
    is_ident ∷ TheWord (codes "Self") ∷ []
starts (ItemMacro InImpl) = Then 58 (58 ∷ []) (TheWord (codes "self")) ∷ Then 58 (58 ∷ []) (TheWord (codes "super"))
    ∷ Then 58 (58 ∷ []) (TheWord (codes "crate")) ∷ Then 58 (58 ∷ []) (AnyWord is_ident) ∷ Then 58 (58 ∷ [])
    (TheWord (codes "Self")) ∷ TheWord (codes "self") ∷ TheWord (codes "super") ∷ TheWord (codes "crate") ∷ AnyWord
    is_ident ∷ TheWord (codes "Self") ∷ []
starts Label = Tick ∷ []
starts Body = Opening Brace ∷ []
starts Block = Opening Brace ∷ []
starts ALet = TheWord (codes "let") ∷ []
starts AStatement = statement_starts ++ expression_starts
starts Statements = Sign 59 [] ∷ (statement_starts ++ expression_starts)
starts Items = RawFront ∷ Then 35 [] (Opening Bracket) ∷ TheWord (codes "pub") ∷ TheWord (codes "const") ∷ TheWord
    (codes "async") ∷ TheWord (codes "unsafe") ∷ TheWord (codes "extern") ∷ TheWord (codes "fn") ∷ TheWord
    (codes "use") ∷ TheWord (codes "static") ∷ TheWord (codes "mod") ∷ TheWord (codes "type") ∷ TheWord
    (codes "struct") ∷ TheWord (codes "enum") ∷ TheWord (codes "union") ∷ TheWord (codes "auto") ∷ TheWord
    (codes "trait") ∷ TheWord (codes "default") ∷ TheWord (codes "impl") ∷ AnyWord is_ident ∷ TheWord (codes "self")
    ∷ TheWord (codes "super") ∷ TheWord (codes "crate") ∷ Sign 58 (58 ∷ []) ∷ []
starts ForeignItems = RawFront ∷ Then 35 [] (Opening Bracket) ∷ TheWord (codes "pub") ∷ TheWord (codes "const") ∷
    TheWord (codes "async") ∷ TheWord (codes "unsafe") ∷ TheWord (codes "safe") ∷ TheWord (codes "extern") ∷ TheWord
    (codes "fn") ∷ TheWord (codes "unsafe") ∷ TheWord (codes "safe") ∷ TheWord (codes "static") ∷ TheWord
    (codes "type") ∷ AnyWord is_ident ∷ TheWord (codes "self") ∷ TheWord (codes "super") ∷ TheWord (codes "crate") ∷
    Sign 58 (58 ∷ []) ∷ []
starts TraitItems = RawFront ∷ Then 35 [] (Opening Bracket) ∷ TheWord (codes "pub") ∷ TheWord (codes "default") ∷
    TheWord (codes "const") ∷ TheWord (codes "async") ∷ TheWord (codes "unsafe") ∷ TheWord (codes "extern") ∷ TheWord
    (codes "fn") ∷ TheWord (codes "const") ∷ TheWord (codes "type") ∷
    AnyWord is_ident ∷ TheWord (codes "self") ∷ TheWord (codes "super") ∷ TheWord (codes "crate") ∷ Sign 58
    (58 ∷ []) ∷ []
starts ImplItems = RawFront ∷ Then 35 [] (Opening Bracket) ∷ TheWord (codes "pub") ∷ TheWord (codes "default") ∷
    TheWord (codes "const") ∷ TheWord (codes "async") ∷ TheWord (codes "unsafe") ∷ TheWord (codes "extern") ∷ TheWord
    (codes "fn") ∷ TheWord (codes "const") ∷ TheWord (codes "type") ∷
    AnyWord is_ident ∷ TheWord (codes "self") ∷ TheWord (codes "super") ∷ TheWord (codes "crate") ∷ Sign 58
    (58 ∷ []) ∷ []
starts AModule = TheWord (codes "unsafe") ∷ TheWord (codes "mod") ∷ []
starts AForeignModule = TheWord (codes "unsafe") ∷ TheWord (codes "extern") ∷ []
starts AMacroDefinition = TheWord (codes "macro") ∷ []
starts ATrait = TheWord (codes "unsafe") ∷ TheWord (codes "auto") ∷ TheWord (codes "trait") ∷ []
starts AConstTrait = TheWord (codes "const") ∷ []
starts ARestrictedTrait = TheWord (codes "impl") ∷ []
starts AnImpl = TheWord (codes "default") ∷ TheWord (codes "const") ∷ TheWord (codes "unsafe") ∷ TheWord
    (codes "impl") ∷ []
starts AnItem = RawFront ∷ Then 35 [] (Opening Bracket) ∷ TheWord (codes "pub") ∷ TheWord (codes "const") ∷ TheWord
    (codes "async") ∷ TheWord (codes "unsafe") ∷ TheWord (codes "extern") ∷ TheWord (codes "fn") ∷ TheWord
    (codes "use") ∷ TheWord (codes "static") ∷ TheWord (codes "mod") ∷ TheWord (codes "type") ∷ TheWord
    (codes "struct") ∷ TheWord (codes "enum") ∷ TheWord (codes "union") ∷ TheWord (codes "auto") ∷ TheWord
    (codes "trait") ∷ TheWord (codes "default") ∷ TheWord (codes "impl") ∷ AnyWord is_ident ∷ TheWord (codes "self")
    ∷ TheWord (codes "super") ∷ TheWord (codes "crate") ∷ Sign 58 (58 ∷ []) ∷ []
starts AForeignItem = RawFront ∷ Then 35 [] (Opening Bracket) ∷ TheWord (codes "pub") ∷ TheWord (codes "const") ∷
    TheWord (codes "async") ∷ TheWord (codes "unsafe") ∷ TheWord (codes "safe") ∷ TheWord (codes "extern") ∷ TheWord
    (codes "fn") ∷ TheWord (codes "unsafe") ∷ TheWord (codes "safe") ∷ TheWord (codes "static") ∷ TheWord
    (codes "type") ∷ AnyWord is_ident ∷ TheWord (codes "self") ∷ TheWord (codes "super") ∷ TheWord (codes "crate") ∷
    Sign 58 (58 ∷ []) ∷ []
starts ATraitItem = RawFront ∷ Then 35 [] (Opening Bracket) ∷ TheWord (codes "pub") ∷ TheWord (codes "default") ∷
    TheWord (codes "const") ∷ TheWord (codes "async") ∷ TheWord (codes "unsafe") ∷ TheWord (codes "extern") ∷ TheWord
    (codes "fn") ∷ TheWord (codes "const") ∷ TheWord (codes "type") ∷
    AnyWord is_ident ∷ TheWord (codes "self") ∷ TheWord (codes "super") ∷ TheWord (codes "crate") ∷ Sign 58
    (58 ∷ []) ∷ []
starts AnImplItem = RawFront ∷ Then 35 [] (Opening Bracket) ∷ TheWord (codes "pub") ∷ TheWord (codes "default") ∷
    TheWord (codes "const") ∷ TheWord (codes "async") ∷ TheWord (codes "unsafe") ∷ TheWord (codes "extern") ∷ TheWord
    (codes "fn") ∷ TheWord (codes "const") ∷ TheWord (codes "type") ∷
    AnyWord is_ident ∷ TheWord (codes "self") ∷ TheWord (codes "super") ∷ TheWord (codes "crate") ∷ Sign 58
    (58 ∷ []) ∷ []
starts AFile = Then 35 [] (Sign 33 []) ∷ RawFront ∷ Then 35 [] (Opening Bracket) ∷ TheWord (codes "pub") ∷ TheWord
    (codes "const") ∷ TheWord (codes "async") ∷ TheWord (codes "unsafe") ∷ TheWord (codes "extern") ∷ TheWord
    (codes "fn") ∷ TheWord (codes "use") ∷ TheWord (codes "static") ∷ TheWord (codes "mod") ∷ TheWord (codes "type")
    ∷ TheWord (codes "struct") ∷ TheWord (codes "enum") ∷ TheWord (codes "union") ∷ TheWord (codes "auto") ∷ TheWord
    (codes "trait") ∷ TheWord (codes "default") ∷ TheWord (codes "impl") ∷ AnyWord is_ident ∷ TheWord (codes "self")
    ∷ TheWord (codes "super") ∷ TheWord (codes "crate") ∷ Sign 58 (58 ∷ []) ∷ []
starts ExprLit = Quoted any_text ∷ TheWord (codes "true") ∷ TheWord (codes "false") ∷ []
starts ExprPath = Sign 60 [] ∷ Then 58 (58 ∷ []) (TheWord (codes "self")) ∷ Then 58 (58 ∷ [])
    (TheWord (codes "super")) ∷ Then 58 (58 ∷ []) (TheWord (codes "crate")) ∷ Then 58 (58 ∷ []) (AnyWord is_ident) ∷
    Then 58 (58 ∷ []) (TheWord (codes "Self")) ∷ TheWord (codes "self") ∷ TheWord (codes "super") ∷ TheWord
    (codes "crate") ∷ AnyWord is_ident ∷ TheWord (codes "Self") ∷ []
starts ExprMacro = Then 58 (58 ∷ []) (TheWord (codes "self")) ∷ Then 58 (58 ∷ []) (TheWord (codes "super")) ∷ Then 58
    (58 ∷ []) (TheWord (codes "crate")) ∷ Then 58 (58 ∷ []) (AnyWord is_ident) ∷ Then 58 (58 ∷ [])
    (TheWord (codes "Self")) ∷ TheWord (codes "self") ∷ TheWord (codes "super") ∷ TheWord (codes "crate") ∷ AnyWord
    is_ident ∷ TheWord (codes "Self") ∷ []
starts ExprParen = Opening Parenthesis ∷ []
starts ExprArray = Opening Bracket ∷ []
starts ExprRepeat = Opening Bracket ∷ []
starts ExprGroup = Opening D.None ∷ []
starts ExprInfer = TheWord (codes "_") ∷ []
starts ExprBlock = Tick ∷ Opening Brace ∷ []
starts ExprUnsafe = TheWord (codes "unsafe") ∷ []
starts ExprAsync = TheWord (codes "async") ∷ []
starts ExprConst = TheWord (codes "const") ∷ []
starts ExprTryBlock = TheWord (codes "try") ∷ []
starts ExprIf = TheWord (codes "if") ∷ []
starts ExprMatch = TheWord (codes "match") ∷ []
starts ExprLoop = Tick ∷ TheWord (codes "loop") ∷ []
starts ExprWhile = Tick ∷ TheWord (codes "while") ∷ []
starts ExprForLoop = Tick ∷ TheWord (codes "for") ∷ []
starts ExprContinue = TheWord (codes "continue") ∷ []
starts ExprTypedClosure = TheWord (codes "for") ∷ TheWord (codes "const") ∷ TheWord (codes "static") ∷ TheWord
    (codes "async") ∷ TheWord (codes "move") ∷ Sign 124 [] ∷ []
starts ExprStruct = Opening Brace ∷ []
starts ExprCall = Opening Parenthesis ∷ []
starts ExprMethodCall = Sign 46 [] ∷ []
starts ExprField = Sign 46 [] ∷ []
starts ExprAwait = Sign 46 [] ∷ []
starts ExprIndex = Opening Bracket ∷ []
starts ExprTry = Sign 63 [] ∷ []
starts ExprCast = TheWord (codes "as") ∷ []
starts ExprAttributed = Then 35 [] (Opening Bracket) ∷ []
starts ExprUnary = Sign 42 [] ∷ Sign 33 [] ∷ Sign 45 [] ∷ []
starts ExprRawAddr = Sign 38 [] ∷ []
starts ExprReference = Sign 38 [] ∷ []
starts ExprLet = TheWord (codes "let") ∷ []
starts ExprBreak = TheWord (codes "break") ∷ []
starts ExprReturn = TheWord (codes "return") ∷ []
starts ExprYield = TheWord (codes "yield") ∷ []
starts ExprClosure = TheWord (codes "for") ∷ TheWord (codes "const") ∷ TheWord (codes "static") ∷ TheWord
    (codes "async") ∷ TheWord (codes "move") ∷ Sign 124 [] ∷ []
starts ExprRange = Sign 46 (46 ∷ []) ∷ []
starts ExprRangeClosed = Sign 46 (46 ∷ 61 ∷ []) ∷ []
starts ExprAssign = Sign 61 [] ∷ Sign 43 (61 ∷ []) ∷ Sign 45 (61 ∷ []) ∷ Sign 42 (61 ∷ []) ∷ Sign 47 (61 ∷ []) ∷ Sign
    37 (61 ∷ []) ∷ Sign 94 (61 ∷ []) ∷ Sign 38 (61 ∷ []) ∷ Sign 124 (61 ∷ []) ∷ Sign 60 (60 ∷ 61 ∷ []) ∷ Sign 62
    (62 ∷ 61 ∷ []) ∷ []
starts ExprOr = Sign 124 (124 ∷ []) ∷ []
starts ExprAnd = Sign 38 (38 ∷ []) ∷ []
starts ExprCompare = Sign 61 (61 ∷ []) ∷ Sign 60 (61 ∷ []) ∷ Sign 33 (61 ∷ []) ∷ Sign 62 (61 ∷ []) ∷ Sign 60 [] ∷
    Sign 62 [] ∷ []
starts ExprBitOr = Sign 124 [] ∷ []
starts ExprBitXor = Sign 94 [] ∷ []
starts ExprBitAnd = Sign 38 [] ∷ []
starts ExprShift = Sign 60 (60 ∷ []) ∷ Sign 62 (62 ∷ []) ∷ []
starts ExprSum = Sign 43 [] ∷ Sign 45 [] ∷ []
starts ExprProduct = Sign 42 [] ∷ Sign 47 [] ∷ Sign 37 [] ∷ []
starts FieldValues = Opening Brace ∷ []
starts AFieldValue = Sign 46 (46 ∷ []) ∷ Then 35 [] (Opening Bracket) ∷ AnyWord is_ident ∷ AnyWord is_ident ∷ Quoted
    is_index ∷ []
starts FieldValue = Then 35 [] (Opening Bracket) ∷ AnyWord is_ident ∷ AnyWord is_ident ∷ Quoted is_index ∷ []
starts Arms = Then 35 [] (Opening Bracket) ∷ pattern_starts
starts Arm = Then 35 [] (Opening Bracket) ∷ pattern_starts
starts ClosureParam = Then 35 [] (Opening Bracket) ∷ TheWord (codes "ref") ∷ TheWord (codes "mut") ∷ AnyWord is_ident
    ∷ TheWord (codes "_") ∷ Then 46 (46 ∷ 61 ∷ []) (Sign 45 []) ∷ Then 46 (46 ∷ 61 ∷ []) (Quoted any_text) ∷ Then 46
    (46 ∷ 61 ∷ []) (TheWord (codes "true")) ∷ Then 46 (46 ∷ 61 ∷ []) (TheWord (codes "false")) ∷ Then 46
    (46 ∷ 61 ∷ []) (Sign 60 []) ∷ Then 46 (46 ∷ 61 ∷ []) (Then 58 (58 ∷ []) (TheWord (codes "self"))) ∷ Then 46
    (46 ∷ 61 ∷ []) (Then 58 (58 ∷ []) (TheWord (codes "super"))) ∷ Then 46 (46 ∷ 61 ∷ [])
    (Then 58 (58 ∷ []) (TheWord (codes "crate"))) ∷ Then 46 (46 ∷ 61 ∷ []) (Then 58 (58 ∷ []) (AnyWord is_ident)) ∷
    Then 46 (46 ∷ 61 ∷ []) (Then 58 (58 ∷ []) (TheWord (codes "Self"))) ∷ Then 46 (46 ∷ 61 ∷ [])
    (TheWord (codes "self")) ∷ Then 46 (46 ∷ 61 ∷ []) (TheWord (codes "super")) ∷ Then 46 (46 ∷ 61 ∷ [])
    (TheWord (codes "crate")) ∷ Then 46 (46 ∷ 61 ∷ []) (AnyWord is_ident) ∷ Then 46 (46 ∷ 61 ∷ [])
    (TheWord (codes "Self")) ∷ Then 46 (46 ∷ []) (Sign 45 []) ∷ Then 46 (46 ∷ []) (Quoted any_text) ∷ Then 46
    (46 ∷ []) (TheWord (codes "true")) ∷ Then 46 (46 ∷ []) (TheWord (codes "false")) ∷ Then 46 (46 ∷ []) (Sign 60 [])
    ∷ Then 46 (46 ∷ []) (Then 58 (58 ∷ []) (TheWord (codes "self"))) ∷ Then 46 (46 ∷ [])
    (Then 58 (58 ∷ []) (TheWord (codes "super"))) ∷ Then 46 (46 ∷ []) (Then 58 (58 ∷ []) (TheWord (codes "crate"))) ∷
    Then 46 (46 ∷ []) (Then 58 (58 ∷ []) (AnyWord is_ident)) ∷ Then 46 (46 ∷ [])
    (Then 58 (58 ∷ []) (TheWord (codes "Self"))) ∷ Then 46 (46 ∷ []) (TheWord (codes "self")) ∷ Then 46 (46 ∷ [])
    (TheWord (codes "super")) ∷ Then 46 (46 ∷ []) (TheWord (codes "crate")) ∷ Then 46 (46 ∷ []) (AnyWord is_ident) ∷
    Then 46 (46 ∷ []) (TheWord (codes "Self")) ∷ Sign 46 (46 ∷ []) ∷ Opening Parenthesis ∷ Opening Bracket ∷ Sign 38
    [] ∷ Sign 45 [] ∷ Quoted any_text ∷ TheWord (codes "true") ∷ TheWord (codes "false") ∷ Sign 60 [] ∷ Then 58
    (58 ∷ []) (TheWord (codes "self")) ∷ Then 58 (58 ∷ []) (TheWord (codes "super")) ∷ Then 58 (58 ∷ [])
    (TheWord (codes "crate")) ∷ Then 58 (58 ∷ []) (AnyWord is_ident) ∷ Then 58 (58 ∷ []) (TheWord (codes "Self")) ∷
    TheWord (codes "self") ∷ TheWord (codes "super") ∷ TheWord (codes "crate") ∷ AnyWord is_ident ∷ TheWord
    (codes "Self") ∷ []
starts k = []
