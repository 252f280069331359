-- Entries whose tests see nothing behind a stop.
use Prim.Native.String.{String}
use Rattle.std.proofs.Common.{◌≡◌, ℕ, List, [], ◌∷◌, refl}
use Rattle.std.specs.Prelude.{Bool, true, false, codes}
use Rattle.proc_macro2.specs.declared.delimiter.Delimiter.TheVariants.{Parenthesis, Bracket}
use Rattle.syn_grammar.specs.Kind.{Kind, Style, Place, InModule, InExpression, InType, AtType, WithPlus, WithoutPlus}
use Rattle.syn_grammar.specs.Kind.{InFile, InForeign, InTrait, InImpl}
use Rattle.syn_grammar.specs.Kind.{Path, Segments, QualifiedPath, AnyPath, Arguments, AnArgument}
use Rattle.syn_grammar.specs.Kind.{ParenthesizedArguments, AType, DynType, ImplType, ReturnType, TupleType, NeverType}
use Rattle.syn_grammar.specs.Kind.{ReferenceType, PointerType, BracketType, InferType, FnPtrType, Bounds, SomeBounds}
use Rattle.syn_grammar.specs.Kind.{Bound, TraitPath, BoundLifetimes, Lifetimes, Abi, OuterAttributes, OuterAttribute}
use Rattle.syn_grammar.specs.Kind.{Generics, ImplGenerics, GenericParams, GenericParam, LifetimeParam, LifetimeColon}
use Rattle.syn_grammar.specs.Kind.{ConstParam, TypeParam, BoundsColon, Where, WhereClause, WherePredicate, Expression}
use Rattle.syn_grammar.specs.Kind.{Body, Visibility, UnnamedFields}
use Rattle.syn_grammar.specs.Kind.{UseTop, UseTree, UseBranch, UseRooted}
use Rattle.syn_grammar.specs.Kind.{Parameters, Signature}
use Rattle.syn_grammar.specs.Kind.{Delimited, AMacro, Label, Block, ExprLit, ExprPath, ExprMacro, ExprParen}
use Rattle.syn_grammar.specs.Kind.{ExprArray, ExprRepeat, ExprGroup, ExprInfer, ExprBlock, ExprUnsafe, ExprAsync}
use Rattle.syn_grammar.specs.Kind.{ExprConst, ExprTryBlock, ExprIf, ExprMatch, ExprLoop, ExprWhile, ExprForLoop}
use Rattle.syn_grammar.specs.Kind.{ExprContinue, ExprStruct, FieldValues, ExprCall, ExprMethodCall, ExprField}
use Rattle.syn_grammar.specs.Kind.{ExprAwait, ExprIndex, ExprTry, ExprCast, ExprAttributed, ExprUnary, ExprRawAddr}
use Rattle.syn_grammar.specs.Kind.{ExprReference, ExprLet, ExprBreak, ExprReturn, ExprYield, ExprRange}
use Rattle.syn_grammar.specs.Kind.{ExprRangeClosed, ExprAssign, ExprOr, ExprAnd, ExprCompare, ExprBitOr, ExprBitXor}
use Rattle.syn_grammar.specs.Kind.{ExprBitAnd, ExprShift, ExprSum, ExprProduct, Pattern, OnePattern, IdentPattern}
use Rattle.syn_grammar.specs.Kind.{WildPattern, RangeToPattern, RestPattern, TuplePattern, SlicePattern}
use Rattle.syn_grammar.specs.Kind.{ReferencePattern, LiteralPattern, PathPattern, FieldPatterns, RangeEnd, RangeBound}
use Rattle.syn_grammar.specs.Expressions.{labelled, dot, postfix_stands}
use Rattle.syn_grammar.specs.Patterns.{vert, dots, range_end_stands, range_bound_stands, binding, signed_literal}
use Rattle.syn_grammar.proofs.Whole.{and_true}
use Rattle.syn_grammar.specs.Kind.{ClosureParam, ExprClosure, ExprTypedClosure}
use Rattle.syn_grammar.specs.Expressions.{expr_closure}
use Rattle.syn_grammar.specs.Words.{is_name, is_bool, is_string, is_ident, any_text}
use Rattle.syn_grammar.specs.Gram.{Gram, seq, alt, star, many, judged, dropped, called, ref}
use Rattle.syn_grammar.specs.Look.{sees, no, ◌or◌, ◌then◌, a_literal, all_attributes, a_lifetime}
use Rattle.syn_grammar.specs.Say.{at, marks, parenthesis, brace, bracket, lit}
use Rattle.syn_grammar.specs.Paths.{arguments_stand, parentheses_stand, turbofish}
use Rattle.syn_grammar.specs.Types.{colon, bound_stands}
use Rattle.syn_grammar.specs.Generics.{impl_generics_stand, where_ends}
use Rattle.syn_grammar.specs.Items.{restricted, restricted_in, restriction, safety, maybe_safety, signature_stands}
use Rattle.syn_grammar.specs.Items.{definition, type_end, trait_stands, restricted_trait_stands}
use Rattle.syn_grammar.specs.Items.{macro_name}
use Rattle.syn_grammar.specs.Lists.{macro_stands}
use Rattle.syn_grammar.specs.Say.{one_sign}
use Rattle.syn_grammar.specs.Gram.{punct}
use Rattle.laws_items.proofs.Alike.{no_semicolons}
use Rattle.syn_grammar.specs.Table.{table}
use Rattle.laws_items.proofs.Alike.{IsSure, IsSteady, blind_sure, sure_then, strict_then, sure_or}
use Rattle.laws_items.proofs.Alike.{blind_or, sure_maybe, sure_no, steady_sees, steady_lacks, sure_none, sure_word}
use Rattle.laws_items.proofs.Alike.{sure_quoted, no_semicolon, strict_mark, sure_mark, blind_sign, sure_lifetime}
use Rattle.laws_items.proofs.Alike.{blind_opens, sure_opens, sure_closes, sure_group, sure_end, sure_repeatedly}

-- kinds whose tests see nothing behind a stop, but for those of the forms in an expression
abbrev pub is_steady : Kind → Bool
is_steady (Path s) = true
is_steady (Segments s) = true
is_steady (QualifiedPath s) = true
is_steady (AnyPath s) = true
is_steady Arguments = true
is_steady AnArgument = true
is_steady ParenthesizedArguments = true
is_steady (AType p) = true
is_steady (DynType p) = true
is_steady (ImplType p) = true
is_steady (ReturnType p) = true
is_steady TupleType = true
is_steady NeverType = true
is_steady ReferenceType = true
is_steady PointerType = true
is_steady BracketType = true
is_steady InferType = true
is_steady FnPtrType = true
is_steady Bounds = true
is_steady SomeBounds = true
is_steady Bound = true
is_steady TraitPath = true
is_steady BoundLifetimes = true
is_steady Lifetimes = true
is_steady Abi = true
is_steady OuterAttributes = true
is_steady OuterAttribute = true
is_steady Generics = true
is_steady ImplGenerics = true
is_steady GenericParams = true
is_steady GenericParam = true
is_steady LifetimeParam = true
is_steady LifetimeColon = true
is_steady ConstParam = true
is_steady TypeParam = true
is_steady BoundsColon = true
is_steady Where = true
is_steady WhereClause = true
is_steady WherePredicate = true
is_steady (Expression p) = true
is_steady Body = true
is_steady Visibility = true
is_steady UnnamedFields = true
is_steady UseTop = true
is_steady UseTree = true
is_steady UseBranch = true
is_steady UseRooted = true
is_steady Parameters = true
is_steady (Signature p) = true
is_steady Delimited = true
is_steady AMacro = true
is_steady Label = true
is_steady Block = true
is_steady ExprLit = true
is_steady ExprPath = true
is_steady ExprMacro = true
is_steady ExprParen = true
is_steady ExprArray = true
is_steady ExprRepeat = true
is_steady ExprGroup = true
is_steady ExprInfer = true
is_steady ExprBlock = true
is_steady ExprUnsafe = true
is_steady ExprAsync = true
is_steady ExprConst = true
is_steady ExprTryBlock = true
is_steady ExprIf = true
is_steady ExprMatch = true
is_steady ExprLoop = true
is_steady ExprWhile = true
is_steady ExprForLoop = true
is_steady ExprContinue = true
is_steady ExprStruct = true
is_steady FieldValues = true
is_steady ExprCall = true
is_steady ExprMethodCall = true
is_steady ExprField = true
is_steady ExprAwait = true
is_steady ExprIndex = true
is_steady ExprTry = true
is_steady ExprCast = true
is_steady ExprAttributed = true
is_steady ExprUnary = true
is_steady ExprRawAddr = true
is_steady ExprReference = true
is_steady ExprLet = true
is_steady ExprBreak = true
is_steady ExprReturn = true
is_steady ExprYield = true
is_steady ExprRange = true
is_steady ExprRangeClosed = true
is_steady ExprAssign = true
is_steady ExprOr = true
is_steady ExprAnd = true
is_steady ExprCompare = true
is_steady ExprBitOr = true
is_steady ExprBitXor = true
is_steady ExprBitAnd = true
is_steady ExprShift = true
is_steady ExprSum = true
is_steady ExprProduct = true
is_steady Pattern = true
is_steady OnePattern = true
is_steady IdentPattern = true
is_steady WildPattern = true
is_steady RangeToPattern = true
is_steady RestPattern = true
is_steady TuplePattern = true
is_steady SlicePattern = true
is_steady ReferencePattern = true
is_steady LiteralPattern = true
is_steady PathPattern = true
is_steady FieldPatterns = true
is_steady RangeEnd = true
is_steady RangeBound = true
is_steady ClosureParam = true
is_steady ExprClosure = true
is_steady ExprTypedClosure = true
is_steady _ = false

-- of entries; what stands in a group sees nothing behind it
abbrev pub Steady : Gram → Type 0
Steady (seq g h) = Steady g × Steady h
Steady (alt t g h) = IsSteady t × Steady g × Steady h
Steady (star t g) = IsSteady t × Steady g
Steady (many t c g) = IsSteady t × Steady g
Steady (judged v g) = Steady g
Steady (dropped g) = Steady g
Steady (called n g) = Steady g
Steady (ref k) = is_steady k ≡ true
Steady _ = Unit {0}

pub no_kind : {A : Type 0} → false ≡ true → A
no_kind e = cc

-- looks
pub a_mark : (s : String) → no_semicolon (codes s) ≡ true → IsSure (marks s)
a_mark s e = sure_mark (codes s) e

pub the_text : (s : String) → IsSure (at s)
the_text s = sure_word _

pub by_mark : (s : String) → no_semicolon (codes s) ≡ true → IsSteady (sees (marks s))
by_mark s e = steady_sees (blind_sure (a_mark s e))

pub by_text : (s : String) → IsSteady (sees (at s))
by_text s = steady_sees (blind_sure (the_text s))

pub by_brace : IsSteady (sees brace)
by_brace = steady_sees blind_opens

pub by_parenthesis : IsSteady (sees parenthesis)
by_parenthesis = steady_sees blind_opens

by_bracket : IsSteady (sees bracket)
by_bracket = steady_sees blind_opens

by_lifetime : IsSteady (sees a_lifetime)
by_lifetime = steady_sees (blind_sure sure_lifetime)

pub sure_literal : IsSure a_literal
sure_literal = sure_or (sure_quoted any_text) (sure_word is_bool)

sure_colon : IsSure colon
sure_colon = sure_then (sure_no (blind_sure (a_mark "::" refl))) (a_mark ":" refl)

sure_bound : IsSure bound_stands
sure_bound =
    sure_or sure_lifetime (sure_or (a_mark "?" refl) (sure_or (the_text "for") (sure_or (a_mark "::" refl)
    (sure_word is_name))))

sure_turbofish : IsSure turbofish
sure_turbofish = sure_then (a_mark "::" refl) (a_mark "<" refl)

sure_arguments : (s : Style) → IsSure (arguments_stand s)
sure_arguments InModule = sure_none
sure_arguments InExpression = sure_turbofish
sure_arguments InType =
    sure_or sure_turbofish (sure_then (sure_no (blind_sure (a_mark "<=" refl))) (a_mark "<" refl))
sure_arguments AtType =
    sure_or sure_turbofish (sure_then (sure_no (blind_sure (a_mark "<=" refl))) (a_mark "<" refl))

sure_parentheses : (s : Style) → IsSure (parentheses_stand s)
sure_parentheses InModule = sure_none
sure_parentheses InExpression = sure_none
sure_parentheses InType = sure_none
sure_parentheses AtType = sure_opens Parenthesis refl

sure_attributes : IsSure all_attributes
sure_attributes = sure_repeatedly (strict_then (strict_mark (codes "#") refl) (sure_group Bracket refl))

sure_impl_generics : IsSure impl_generics_stand
sure_impl_generics =
    sure_then (a_mark "<" refl) (sure_or (a_mark ">" refl) (sure_or (a_mark "#" refl) (sure_or (the_text "const")
    (sure_then (sure_or sure_lifetime (sure_word is_ident)) (sure_or (a_mark ">" refl) (sure_or (a_mark "," refl)
    (sure_or (a_mark "=" refl) sure_colon)))))))

by_where_end : IsSteady (sees where_ends)
by_where_end =
    steady_sees (blind_or (blind_sure sure_end) (blind_or blind_opens (blind_or (blind_sure (a_mark "," refl))
    (blind_or (blind_sign 59) (blind_or (blind_sure (a_mark "=" refl)) (blind_sure sure_colon))))))

sure_restricted_in : IsSure restricted_in
sure_restricted_in = sure_then (sure_opens Parenthesis refl) (the_text "in")

sure_restricted : IsSure restricted
sure_restricted = sure_then (sure_opens Parenthesis refl) (sure_then (sure_word _) sure_closes)

pub sure_safety : (p : Place) → IsSure (maybe_safety p)
sure_safety InFile = sure_maybe (the_text "unsafe")
sure_safety InForeign = sure_maybe (sure_or (the_text "unsafe") (the_text "safe"))
sure_safety InTrait = sure_maybe (the_text "unsafe")
sure_safety InImpl = sure_maybe (the_text "unsafe")

pub by_signature : (p : Place) → IsSteady (sees (signature_stands p))
by_signature p =
    steady_sees (blind_sure (sure_then (sure_maybe (the_text "const")) (sure_then (sure_maybe (the_text "async"))
    (sure_then (sure_safety p) (sure_then (sure_maybe (sure_then (the_text "extern")
    (sure_maybe (sure_quoted is_string)))) (the_text "fn"))))))

pub by_macro : IsSteady (sees macro_stands)
by_macro = steady_sees (blind_sure (sure_or (sure_word is_ident) (sure_or (sure_word _) (a_mark "::" refl))))

pub sure_trait : IsSure trait_stands
sure_trait = sure_then (sure_maybe (the_text "unsafe")) (sure_then (sure_maybe (the_text "auto")) (the_text "trait"))

pub by_restricted_trait : IsSteady (sees restricted_trait_stands)
by_restricted_trait =
    steady_sees (blind_sure (sure_then (the_text "impl") (sure_then (sure_group Parenthesis refl)
    (sure_or (the_text "const") (sure_or (the_text "unsafe") (sure_or (the_text "auto") (the_text "trait")))))))

pub by_texts : (s t : String) → IsSteady (sees (at s then at t))
by_texts s t = steady_sees (blind_sure (sure_then (the_text s) (the_text t)))

by_fn_type : IsSteady (sees (at "for" or at "unsafe" or at "extern" or at "fn"))
by_fn_type =
    steady_sees (blind_sure (sure_or (the_text "for") (sure_or (the_text "unsafe") (sure_or (the_text "extern")
    (the_text "fn")))))

pub by_trait : IsSteady (sees (at "trait" or (at "auto" then at "trait")))
by_trait = steady_sees (blind_sure (sure_or (the_text "trait") (sure_then (the_text "auto") (the_text "trait"))))

pub sure_default : IsSure (at "default" then no (marks "!"))
sure_default = sure_then (the_text "default") (sure_no (blind_sure (a_mark "!" refl)))

pub by_impl : IsSteady (sees (at "impl" or (at "default" then no (marks "!"))))
by_impl = steady_sees (blind_sure (sure_or (the_text "impl") sure_default))

sure_vert : IsSure vert
sure_vert =
    sure_then (sure_no (blind_or (blind_sure (a_mark "||" refl)) (blind_sure (a_mark "|=" refl)))) (a_mark "|" refl)

sure_dots : IsSure dots
sure_dots =
    sure_then (sure_no (blind_or (blind_sure (a_mark "..." refl)) (blind_sure (a_mark "..=" refl))))
    (a_mark ".." refl)

sure_range_end : IsSure range_end_stands
sure_range_end = sure_then (sure_no (blind_sure (a_mark "..." refl))) (a_mark ".." refl)

sure_range_bound : IsSure range_bound_stands
sure_range_bound =
    sure_or sure_literal (sure_or (a_mark "-" refl) (sure_or (a_mark "<" refl) (sure_or (a_mark "::" refl)
    (sure_word is_name))))

sure_binding : IsSure binding
sure_binding =
    sure_then (sure_word is_ident) (sure_no (blind_or (blind_sure (a_mark "::" refl)) (blind_or blind_opens
    (blind_or blind_opens (blind_sure (a_mark ".." refl))))))

pub sure_postfix : IsSure postfix_stands
sure_postfix =
    sure_or (sure_then (sure_no (blind_sure (a_mark ".." refl))) (a_mark "." refl)) (sure_or (a_mark "?" refl)
    (sure_or (sure_opens Parenthesis refl) (sure_opens Bracket refl)))

-- parts of entries
steady_lit : Steady lit
steady_lit =
    (steady_sees (blind_sure (sure_quoted any_text)), tt, tt)

pub steady_restriction : Steady restriction
steady_restriction =
    (steady_sees (blind_sure sure_restricted_in), tt, tt)

pub steady_safety : (p : Place) → Steady (safety p)
steady_safety InFile =
    (by_text "unsafe", tt, tt)
steady_safety InForeign =
    (steady_sees (blind_sure (sure_or (the_text "unsafe") (the_text "safe"))), tt, tt)
steady_safety InTrait =
    (by_text "unsafe", tt, tt)
steady_safety InImpl =
    (by_text "unsafe", tt, tt)

steady_definition : Steady definition
steady_definition =
    (by_mark "=" refl, (tt, refl), tt)

pub steady_type_end : (p : Place) → Steady (type_end p)
steady_type_end InFile =
    (by_text "where", (refl, steady_definition), (steady_definition, refl))
steady_type_end InForeign =
    (by_text "where", (refl, steady_definition), (steady_definition, refl))
steady_type_end InTrait =
    (steady_definition, refl)
steady_type_end InImpl =
    (steady_definition, refl)

pub steady_macro_name : (p : Place) → Steady (macro_name p)
steady_macro_name InFile =
    (steady_sees (blind_sure (sure_or (sure_word is_ident) (the_text "try"))), (by_text "try", tt, tt), tt)
steady_macro_name InForeign =
    tt
steady_macro_name InTrait =
    tt
steady_macro_name InImpl =
    tt

steady_labelled : Steady labelled
steady_labelled = (by_lifetime, refl, tt)

steady_dot : Steady dot
steady_dot = (tt, (steady_sees (blind_sure (sure_quoted _)), tt))

steady_sign : (text : List ℕ) → Steady (punct text)
steady_sign [] = tt
steady_sign (c ∷ cs) = tt

steady_signs : (texts : List (List ℕ)) → no_semicolons texts ≡ true → Steady (one_sign texts)
steady_signs [] e = tt
steady_signs (text ∷ texts) e =
    let i = and_true (no_semicolon text) (no_semicolons texts) e in
    (steady_sees (blind_sure (sure_mark text i.0)), steady_sign text, steady_signs texts i.1)

steady_signed : Steady signed_literal
steady_signed = (by_mark "-" refl, (tt, tt), steady_lit)

by_literal : IsSteady (sees (a_literal or marks "-"))
by_literal = steady_sees (blind_sure (sure_or sure_literal (a_mark "-" refl)))

by_vert : IsSteady (sees vert)
by_vert = steady_sees (blind_sure sure_vert)

by_range_end : IsSteady (sees range_end_stands)
by_range_end = steady_sees (blind_sure sure_range_end)

steady_closure : Steady expr_closure
steady_closure = (
  (by_text "for", refl, tt),
  (
    (by_text "const", tt, tt),
    (
      (by_text "static", tt, tt),
      (
        (by_text "async", tt, tt),
        ((by_text "move", tt, tt), (tt, ((by_mark "|" refl, refl), tt))),
      ),
    ),
  ),
)

pub steady_table : (k : Kind) → is_steady k ≡ true → Steady (table k)
unfolding table
steady_table (Path s) e =
    ((by_mark "::" refl, tt, tt), refl)
steady_table (Segments s) e = (
  steady_sees (blind_sure (sure_word _)),
  (tt, (by_mark "::" refl, (tt, refl), tt)),
  (
    tt,
    (
      steady_sees
          (blind_sure (sure_arguments s)),
      (refl, (by_mark "::" refl, (tt, refl), tt)),
      (
        by_mark "::" refl,
        (tt, refl),
        (steady_sees (blind_sure (sure_parentheses s)), refl, tt),
      ),
    ),
  ),
)
steady_table (QualifiedPath s) e =
    (tt, (refl, ((by_text "as", (tt, refl), tt), (tt, (tt, refl)))))
steady_table (AnyPath s) e =
    (by_mark "<" refl, refl, refl)
steady_table Arguments e =
    ((by_mark "::" refl, tt, tt), (tt, ((by_mark ">" refl, refl), tt)))
steady_table AnArgument e = (
  by_lifetime,
  tt,
  (
    steady_sees (blind_sure sure_literal),
    steady_lit,
    (
      by_brace,
      refl,
      (
        steady_sees
            (blind_sure (sure_then (sure_word is_ident) (a_mark "=" refl))),
        (tt, (tt, refl)),
        refl,
      ),
    ),
  ),
)
steady_table ParenthesizedArguments e =
    (tt, (by_mark "->" refl, (tt, refl), tt))
steady_table (AType p) e = (
  by_parenthesis,
  refl,
  (
    by_mark "!" refl,
    refl,
    (
      by_mark "&" refl,
      refl,
      (
        by_mark "*" refl,
        refl,
        (
          by_bracket,
          refl,
          (
            by_text "_",
            refl,
            (
              by_text "dyn",
              refl,
              (
                by_text "impl",
                refl,
                (
                  by_fn_type,
                  refl,
                  refl,
                ),
              ),
            ),
          ),
        ),
      ),
    ),
  ),
)
steady_table (DynType WithPlus) e =
    (tt, refl)
steady_table (DynType WithoutPlus) e =
    (tt, (by_lifetime, tt, refl))
steady_table (ImplType WithPlus) e =
    (tt, refl)
steady_table (ImplType WithoutPlus) e =
    (tt, (by_lifetime, tt, refl))
steady_table (ReturnType p) e =
    (by_mark "->" refl, (tt, refl), tt)
steady_table TupleType e =
    tt
steady_table NeverType e =
    tt
steady_table ReferenceType e =
    (tt, ((by_lifetime, tt, tt), ((by_text "mut", tt, tt), refl)))
steady_table PointerType e =
    (tt, ((by_text "const", tt, tt), refl))
steady_table BracketType e =
    tt
steady_table InferType e =
    tt
steady_table FnPtrType e =
    ((by_text "for", refl, tt), ((by_text "unsafe", tt, tt), ((by_text "extern", refl, tt), (tt, (tt, refl)))))
steady_table Bounds e =
    (steady_lacks (blind_sure sure_bound), refl)
steady_table SomeBounds e =
    (steady_lacks (blind_sure sure_bound), refl)
steady_table Bound e =
    (by_lifetime, tt, refl)
steady_table TraitPath e =
    ((by_mark "?" refl, tt, (by_text "for", refl, tt)), refl)
steady_table BoundLifetimes e =
    (tt, (tt, ((by_mark ">" refl, refl), tt)))
steady_table Lifetimes e =
    (steady_lacks (blind_sure sure_lifetime), tt)
steady_table Abi e =
    (tt, (steady_sees (blind_sure (sure_quoted is_string)), tt, tt))
steady_table OuterAttributes e =
    (by_mark "#" refl, refl)
steady_table OuterAttribute e =
    (tt, tt)
steady_table Generics e =
    (by_mark "<" refl, (tt, (refl, tt)), tt)
steady_table ImplGenerics e =
    (steady_sees (blind_sure sure_impl_generics), (tt, (refl, tt)), tt)
steady_table GenericParams e =
    (by_mark ">" refl, refl)
steady_table GenericParam e = (
  steady_sees (blind_sure (sure_then sure_attributes sure_lifetime)),
  refl,
  (
    steady_sees (blind_sure
        (sure_then sure_attributes (the_text "const"))),
    refl,
    refl,
  ),
)
steady_table LifetimeParam e =
    (refl, (tt, refl))
steady_table LifetimeColon e =
    (by_mark ":" refl, (tt, refl), tt)
steady_table ConstParam e = (
  refl,
  (
    tt,
    (
      tt,
      (
        tt,
        (
          refl,
          (
            by_mark "=" refl,
            (
              tt,
              (
                steady_sees (blind_sure sure_literal),
                steady_lit,
                (by_brace, refl, tt),
              ),
            ),
            tt,
          ),
        ),
      ),
    ),
  ),
)
steady_table TypeParam e =
    (refl, (tt, (refl, (by_mark "=" refl, (tt, refl), tt))))
steady_table BoundsColon e =
    (by_mark ":" refl, (tt, refl), tt)
steady_table Where e =
    (by_text "where", refl, tt)
steady_table WhereClause e =
    (tt, ((by_where_end, refl), (by_where_end, tt, tt)))
steady_table WherePredicate e =
    (by_lifetime, (tt, (tt, refl)), ((by_text "for", refl, tt), (refl, (tt, refl))))
steady_table (Expression p) e =
    tt
steady_table Body e =
    tt
steady_table Visibility e = (
  by_text "pub",
  (
    tt,
    (
      steady_sees (blind_sure (sure_or sure_restricted sure_restricted_in)),
      steady_restriction,
      tt,
    ),
  ),
  tt,
)
steady_table UnnamedFields e =
    tt
steady_table UseTop e =
    (by_mark "::" refl, (tt, refl), refl)
steady_table UseTree e =
    (by_brace, tt, refl)
steady_table UseBranch e = (
  by_mark "*" refl,
  tt,
  (
    (steady_sees (blind_sure (sure_word _)), tt, tt),
    (
      by_mark "::" refl,
      (tt, refl),
      (by_text "as", (tt, (by_text "_", tt, tt)), tt),
    ),
  ),
)
steady_table UseRooted e =
    (by_brace, tt, refl)
steady_table Parameters e =
    tt
steady_table (Signature p) e = (
  (by_text "const", tt, tt),
  (
    (by_text "async", tt, tt),
    (
      steady_safety p,
      (
        (by_text "extern", refl, tt),
        (
          tt,
          (tt, (refl, (refl, (refl, refl)))),
        ),
      ),
    ),
  ),
)
steady_table Delimited e = (by_parenthesis, tt, (by_brace, tt, tt))
steady_table AMacro e = (refl, (tt, refl))
steady_table Label e = (tt, tt)
steady_table Block e = tt
steady_table ExprLit e = steady_lit
steady_table ExprPath e = refl
steady_table ExprMacro e = refl
steady_table ExprParen e = tt
steady_table ExprArray e = tt
steady_table ExprRepeat e = tt
steady_table ExprGroup e = tt
steady_table ExprInfer e = tt
steady_table ExprBlock e = (steady_labelled, refl)
steady_table ExprUnsafe e = (tt, refl)
steady_table ExprAsync e = (tt, ((by_text "move", tt, tt), refl))
steady_table ExprConst e = (tt, refl)
steady_table ExprTryBlock e = (tt, refl)
steady_table ExprIf e = (tt, (refl, (refl, (by_text "else", (tt, (by_text "if", refl, refl)), tt))))
steady_table ExprMatch e = (tt, (refl, tt))
steady_table ExprLoop e = (steady_labelled, (tt, refl))
steady_table ExprWhile e = (steady_labelled, (tt, (refl, refl)))
steady_table ExprForLoop e = (steady_labelled, (tt, (refl, (tt, (refl, refl)))))
steady_table ExprContinue e = (tt, (by_lifetime, tt, tt))
steady_table ExprStruct e = refl
steady_table FieldValues e = tt
steady_table ExprCall e = tt
steady_table ExprMethodCall e = (steady_dot, (tt, ((by_mark "::" refl, refl, tt), tt)))
steady_table ExprField e = (steady_dot, (steady_sees (blind_sure (sure_word is_ident)), tt, tt))
steady_table ExprAwait e = (steady_dot, tt)
steady_table ExprIndex e = tt
steady_table ExprTry e = tt
steady_table ExprCast e = (tt, (refl, (steady_sees (blind_sure sure_postfix), tt, tt)))
steady_table ExprAttributed e = (refl, refl)
steady_table ExprUnary e = steady_signs (codes "*" ∷ codes "!" ∷ codes "-" ∷ []) refl
steady_table ExprRawAddr e = (tt, (tt, tt))
steady_table ExprReference e = (tt, (by_text "mut", tt, tt))
steady_table ExprLet e = (tt, (refl, tt))
steady_table ExprBreak e = (tt, (by_lifetime, (tt, (by_mark ":" refl, tt, tt)), tt))
steady_table ExprReturn e = tt
steady_table ExprYield e = tt
steady_table ExprRange e = tt
steady_table ExprRangeClosed e = tt
steady_table ExprAssign e =
    steady_signs (codes "=" ∷ codes "+=" ∷ codes "-=" ∷ codes "*=" ∷ codes "/=" ∷ codes "%=" ∷ codes "^=" ∷ codes "&="
    ∷ codes "|=" ∷ codes "<<=" ∷ codes ">>=" ∷ []) refl
steady_table ExprOr e = tt
steady_table ExprAnd e = tt
steady_table ExprCompare e =
    steady_signs (codes "==" ∷ codes "<=" ∷ codes "!=" ∷ codes ">=" ∷ codes "<" ∷ codes ">"
    ∷ []) refl
steady_table ExprBitOr e = tt
steady_table ExprBitXor e = tt
steady_table ExprBitAnd e = tt
steady_table ExprShift e = steady_signs (codes "<<" ∷ codes ">>" ∷ []) refl
steady_table ExprSum e = steady_signs (codes "+" ∷ codes "-" ∷ []) refl
steady_table ExprProduct e = steady_signs (codes "*" ∷ codes "/" ∷ codes "%" ∷ []) refl
steady_table Pattern e = ((by_vert, tt, tt), (refl, (by_vert, (tt, refl))))
steady_table OnePattern e = (
  steady_sees (blind_sure (sure_or (the_text "ref") (sure_or (the_text "mut") sure_binding))),
  refl,
  (
    by_text "_",
    refl,
    (
      steady_sees (blind_sure (sure_or (a_mark "..=" refl)
          (sure_then sure_dots sure_range_bound))),
      refl,
      (
        steady_sees (blind_sure sure_dots),
        refl,
        (
          by_parenthesis,
          refl,
          (
            by_bracket,
            refl,
            (
              by_mark "&" refl,
              refl,
              (by_literal, refl, refl),
            ),
          ),
        ),
      ),
    ),
  ),
)
steady_table IdentPattern e = (
  (by_text "ref", tt, tt),
  (
    (by_text "mut", tt, tt),
    (
      tt,
      (by_mark "!" refl, tt, (by_mark "@" refl, (tt, refl), tt)),
    ),
  ),
)
steady_table WildPattern e = tt
steady_table RangeToPattern e = ((by_mark "..=" refl, tt, tt), refl)
steady_table RestPattern e = tt
steady_table TuplePattern e = tt
steady_table SlicePattern e = tt
steady_table ReferencePattern e = (tt, ((by_text "mut", tt, tt), refl))
steady_table LiteralPattern e = (steady_signed, (by_range_end, refl, tt))
steady_table PathPattern e = (refl, (by_parenthesis, tt, (by_brace, refl, (by_range_end, refl, tt))))
steady_table FieldPatterns e = tt
steady_table RangeEnd e =
    (by_mark "..=" refl, (tt, refl), (tt, (steady_sees (blind_sure sure_range_bound), refl, tt)))
steady_table RangeBound e = (by_literal, steady_signed, refl)
steady_table ClosureParam e = (refl, (refl, (by_mark ":" refl, (tt, refl), tt)))
steady_table ExprClosure e = steady_closure
steady_table ExprTypedClosure e = (steady_closure, (refl, refl))
steady_table _ e = no_kind e
