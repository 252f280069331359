-- What is kept of an expression ends in a brace only where the expression does.
use Rattle.std.specs.Prelude.{◌≡◌, Bool, true, false, ◌&&◌, ℕ, List, [], ◌∷◌, ◌++◌, refl}
use Rattle.std.proofs.Common.{sym, subst, append_assoc, ◌∙◌}
use Rattle.std.proofs.lemmas.List.{append-nil}
use Rattle.std.proofs.lemmas.Bool.{false≢true}
use Rattle.rust_leaf.specs.declared.punct.Spacing.{Spacing}
use Rattle.rust_leaf.specs.declared.punct.Spacing.TheVariants.{Joint, Alone as Apart}
use Rattle.proc_macro2.specs.Token.{Token, Opens, Closes, Ident, Literal, Punct}
use Rattle.proc_macro2.specs.declared.delimiter.Delimiter.{Delimiter}
use Rattle.proc_macro2.specs.declared.delimiter.Delimiter.TheVariants.{Brace, Parenthesis}
use Rattle.syn_grammar.specs.Kind.{AMacro, AType, Abi, AnArgument, AnyPath, Arguments, Block, Body, Bound}
use Rattle.syn_grammar.specs.Kind.{BoundLifetimes, BracketType, ClosureParam, Delimited, DynType, ExprAnd, ExprArray}
use Rattle.syn_grammar.specs.Kind.{ExprAssign, ExprAsync, ExprAttributed, ExprAwait, ExprBitAnd, ExprBitOr}
use Rattle.syn_grammar.specs.Kind.{ExprBitXor, ExprBlock, ExprBreak, ExprCall, ExprCast, ExprClosure, ExprCompare}
use Rattle.syn_grammar.specs.Kind.{ExprConst, ExprContinue, ExprField, ExprForLoop, ExprGroup, ExprIf, ExprIndex}
use Rattle.syn_grammar.specs.Kind.{ExprInfer, ExprLet, ExprLit, ExprLoop, ExprMacro, ExprMatch, ExprMethodCall}
use Rattle.syn_grammar.specs.Kind.{ExprOr, ExprParen, ExprPath, ExprProduct, ExprRange, ExprRangeClosed, ExprRawAddr}
use Rattle.syn_grammar.specs.Kind.{ExprReference, ExprRepeat, ExprReturn, ExprShift, ExprStruct, ExprSum, ExprTry}
use Rattle.syn_grammar.specs.Kind.{ExprTryBlock, ExprTypedClosure, ExprUnary, ExprUnsafe, ExprWhile, ExprYield}
use Rattle.syn_grammar.specs.Kind.{Expression, FieldPatterns, FieldValues, FnPtrType, IdentPattern, ImplType}
use Rattle.syn_grammar.specs.Kind.{InferType, Kind, Label, LifetimeColon, LifetimeParam, Lifetimes, LiteralPattern}
use Rattle.syn_grammar.specs.Kind.{NeverType, OnePattern, OuterAttribute, OuterAttributes, ParenthesizedArguments}
use Rattle.syn_grammar.specs.Kind.{Path, PathPattern, Pattern, PointerType, QualifiedPath, RangeBound, RangeEnd}
use Rattle.syn_grammar.specs.Kind.{RangeToPattern, ReferencePattern, ReferenceType, RestPattern, ReturnType, Segments}
use Rattle.syn_grammar.specs.Kind.{SlicePattern, SomeBounds, TraitPath, TuplePattern, TupleType, WildPattern}
use Rattle.syn_grammar.specs.Kind.{WithPlus, WithoutPlus}
use Rattle.syn_grammar.specs.Name.{Part, the_indices, the_value}
use Rattle.syn_grammar.specs.Words.{before_dot, behind_dots, plain_decimal, texts_of}
use Rattle.syn_grammar.specs.Tree.{Tree, AWord, ALiteral, AMark, ALifetime, Raw, Nil, Pair, First, Second, End, Again}
use Rattle.syn_grammar.specs.Tree.{Final, More, Group, Dropped, Called, Verbatim, Node, Whole, Alone, Front}
use Rattle.syn_grammar.specs.Tree.{Back, Infix, marks, flat}
use Rattle.syn_grammar.specs.Gram.{Gram, word, literal, mark, lifetime, raw, nothing, seq, alt, star, many}
use Rattle.syn_grammar.specs.Gram.{group, judged, dropped, called, ref, operand}
use Rattle.syn_grammar.specs.Kept.{constant_argument, dotted, dotted_own, fields_in_front, forget, index_field}
use Rattle.syn_grammar.specs.Kept.{index_fields, kept, listed_bound, lone_dot}
use Rattle.syn_grammar.specs.Statements.{ends_in_braces}
use Rattle.syn_grammar.specs.Table.{table}
use Rattle.node_shapes.specs.Forms.{stands_alone, stands_before, stands_behind, stands_between}
use Rattle.node_shapes.specs.Shape.{IsShaped, AreForms}

-- tokens behind others
more : (t u : Token) (us : List Token) → ends_in_braces (t ∷ u ∷ us) ≡ ends_in_braces (u ∷ us)
more (Closes Brace) u us = refl
more (Closes _) u us = refl
more (Opens d) u us = refl
more (Ident cs) u us = refl
more (Literal cs) u us = refl
more (Punct c i) u us = refl

behind : (us : List Token) (v : Token) (vs : List Token)
    → ends_in_braces (us ++ v ∷ vs) ≡ ends_in_braces (v ∷ vs)
behind [] v vs = refl
behind (t ∷ []) v vs = more t v vs
behind (t ∷ u ∷ us) v vs = more t u (us ++ v ∷ vs) ∙ behind (u ∷ us) v vs

abbrev IsOpen : List Token → Type 0
IsOpen ts = ends_in_braces ts ≡ false

-- there are some, and they don't end in a brace
abbrev EndsOpen : List Token → Type 0
EndsOpen [] = ⊥
EndsOpen (t ∷ ts) = IsOpen (t ∷ ts)

open_behind : (us vs : List Token) → EndsOpen vs → IsOpen (us ++ vs)
open_behind us [] e = absurd e
open_behind us (v ∷ vs) e = behind us v vs ∙ e

ends_behind : (us vs : List Token) → EndsOpen vs → EndsOpen (us ++ vs)
ends_behind [] vs e = e
ends_behind (u ∷ us) vs e = open_behind (u ∷ us) vs e

-- the second of these ends in a brace only where the first does, whatever stands in front of both
abbrev Keeps : List Token → List Token → Type 0
Keeps ts us = (fs bs : List Token) → (IsOpen fs → IsOpen bs) → IsOpen (fs ++ ts) → IsOpen (bs ++ us)

none : Keeps [] []
none fs bs h e = subst IsOpen (sym (append-nil bs)) (h (subst IsOpen (append-nil fs) e))

same : (ts : List Token) → Keeps ts ts
same [] fs bs h e = none fs bs h e
same (t ∷ ts) fs bs h e = behind bs t ts ∙ sym (behind fs t ts) ∙ e

to_open : (ts us : List Token) → EndsOpen us → Keeps ts us
to_open ts us o fs bs h e = open_behind bs us o

two : (ts us vs ws : List Token) → Keeps ts us → Keeps vs ws → Keeps (ts ++ vs) (us ++ ws)
two ts us vs ws f g fs bs h e =
    subst IsOpen (append_assoc bs us ws)
    (g (fs ++ ts) (bs ++ us) (f fs bs h) (subst IsOpen (sym (append_assoc fs ts vs)) e))

grouped : (d : Delimiter) (ts us : List Token) → Keeps (Opens d ∷ ts ++ Closes d ∷ []) (Opens d ∷ us ++ Closes d ∷ [])
grouped d ts us fs bs h e =
    behind bs (Opens d) (us ++ Closes d ∷ []) ∙ behind (Opens d ∷ us) (Closes d) []
    ∙ sym (behind (Opens d ∷ ts) (Closes d) []) ∙ sym (behind fs (Opens d) (ts ++ Closes d ∷ [])) ∙ e

marked : (c : ℕ) (cs : List ℕ) (i : Spacing) → EndsOpen (marks c cs i)
marked c [] i = refl
marked c (d ∷ ds) i = ends_behind (Punct c Joint ∷ []) (marks d ds i) (marked d ds i)

-- kinds that stand in an expression outside groups
abbrev is_inside : Kind → Bool
is_inside (Path s) = true
is_inside (Segments s) = true
is_inside (QualifiedPath s) = true
is_inside (AnyPath s) = true
is_inside (AType p) = true
is_inside (ReturnType p) = true
is_inside Arguments = true
is_inside AnArgument = true
is_inside ParenthesizedArguments = true
is_inside AMacro = true
is_inside Delimited = true
is_inside TupleType = true
is_inside NeverType = true
is_inside ReferenceType = true
is_inside PointerType = true
is_inside BracketType = true
is_inside InferType = true
is_inside FnPtrType = true
is_inside SomeBounds = true
is_inside Bound = true
is_inside TraitPath = true
is_inside BoundLifetimes = true
is_inside LifetimeParam = true
is_inside LifetimeColon = true
is_inside Lifetimes = true
is_inside Abi = true
is_inside Pattern = true
is_inside OnePattern = true
is_inside IdentPattern = true
is_inside WildPattern = true
is_inside RangeToPattern = true
is_inside RestPattern = true
is_inside TuplePattern = true
is_inside SlicePattern = true
is_inside ReferencePattern = true
is_inside LiteralPattern = true
is_inside PathPattern = true
is_inside RangeEnd = true
is_inside RangeBound = true
is_inside FieldPatterns = true
is_inside OuterAttributes = true
is_inside OuterAttribute = true
is_inside FieldValues = true
is_inside ClosureParam = true
is_inside Label = true
is_inside Block = true
is_inside Body = true
is_inside (Expression p) = true
is_inside ExprLit = true
is_inside ExprPath = true
is_inside ExprMacro = true
is_inside ExprParen = true
is_inside ExprArray = true
is_inside ExprRepeat = true
is_inside ExprGroup = true
is_inside ExprInfer = true
is_inside ExprBlock = true
is_inside ExprUnsafe = true
is_inside ExprAsync = true
is_inside ExprConst = true
is_inside ExprTryBlock = true
is_inside ExprIf = true
is_inside ExprMatch = true
is_inside ExprLoop = true
is_inside ExprWhile = true
is_inside ExprForLoop = true
is_inside ExprContinue = true
is_inside ExprTypedClosure = true
is_inside ExprBreak = true
is_inside ExprReturn = true
is_inside ExprYield = true
is_inside ExprRange = true
is_inside ExprAttributed = true
is_inside ExprUnary = true
is_inside ExprRawAddr = true
is_inside ExprReference = true
is_inside ExprLet = true
is_inside ExprClosure = true
is_inside ExprRangeClosed = true
is_inside ExprStruct = true
is_inside ExprCall = true
is_inside ExprMethodCall = true
is_inside ExprField = true
is_inside ExprAwait = true
is_inside ExprIndex = true
is_inside ExprTry = true
is_inside ExprCast = true
is_inside ExprAssign = true
is_inside ExprOr = true
is_inside ExprAnd = true
is_inside ExprCompare = true
is_inside ExprBitOr = true
is_inside ExprBitXor = true
is_inside ExprBitAnd = true
is_inside ExprShift = true
is_inside ExprSum = true
is_inside ExprProduct = true
is_inside (DynType p) = true
is_inside (ImplType p) = true
is_inside k = false

-- entries that forget nothing, and name no other kinds outside groups
abbrev is_clear : Gram → Bool
is_clear (seq a b) = is_clear a && is_clear b
is_clear (alt t a b) = is_clear a && is_clear b
is_clear (star t g) = is_clear g
is_clear (many e c g) = is_clear g
is_clear (judged v g) = is_clear g
is_clear (dropped g) = false
is_clear (called n g) = is_clear g
is_clear (ref k) = is_inside k
is_clear _ = true

clear_entry : (k : Kind) → is_inside k ≡ true → is_clear (table k) ≡ true
unfolding table
clear_entry (Path s) e = refl
clear_entry (Segments s) e = refl
clear_entry (QualifiedPath s) e = refl
clear_entry (AnyPath s) e = refl
clear_entry (AType p) e = refl
clear_entry (ReturnType p) e = refl
clear_entry Arguments e = refl
clear_entry AnArgument e = refl
clear_entry ParenthesizedArguments e = refl
clear_entry AMacro e = refl
clear_entry Delimited e = refl
clear_entry TupleType e = refl
clear_entry NeverType e = refl
clear_entry ReferenceType e = refl
clear_entry PointerType e = refl
clear_entry BracketType e = refl
clear_entry InferType e = refl
clear_entry FnPtrType e = refl
clear_entry SomeBounds e = refl
clear_entry Bound e = refl
clear_entry TraitPath e = refl
clear_entry BoundLifetimes e = refl
clear_entry LifetimeParam e = refl
clear_entry LifetimeColon e = refl
clear_entry Lifetimes e = refl
clear_entry Abi e = refl
clear_entry Pattern e = refl
clear_entry OnePattern e = refl
clear_entry IdentPattern e = refl
clear_entry WildPattern e = refl
clear_entry RangeToPattern e = refl
clear_entry RestPattern e = refl
clear_entry TuplePattern e = refl
clear_entry SlicePattern e = refl
clear_entry ReferencePattern e = refl
clear_entry LiteralPattern e = refl
clear_entry PathPattern e = refl
clear_entry RangeEnd e = refl
clear_entry RangeBound e = refl
clear_entry FieldPatterns e = refl
clear_entry OuterAttributes e = refl
clear_entry OuterAttribute e = refl
clear_entry FieldValues e = refl
clear_entry ClosureParam e = refl
clear_entry Label e = refl
clear_entry Block e = refl
clear_entry Body e = refl
clear_entry (DynType WithPlus) e = refl
clear_entry (DynType WithoutPlus) e = refl
clear_entry (ImplType WithPlus) e = refl
clear_entry (ImplType WithoutPlus) e = refl
clear_entry (Expression p) e = refl
clear_entry ExprLit e = refl
clear_entry ExprPath e = refl
clear_entry ExprMacro e = refl
clear_entry ExprParen e = refl
clear_entry ExprArray e = refl
clear_entry ExprRepeat e = refl
clear_entry ExprGroup e = refl
clear_entry ExprInfer e = refl
clear_entry ExprBlock e = refl
clear_entry ExprUnsafe e = refl
clear_entry ExprAsync e = refl
clear_entry ExprConst e = refl
clear_entry ExprTryBlock e = refl
clear_entry ExprIf e = refl
clear_entry ExprMatch e = refl
clear_entry ExprLoop e = refl
clear_entry ExprWhile e = refl
clear_entry ExprForLoop e = refl
clear_entry ExprContinue e = refl
clear_entry ExprTypedClosure e = refl
clear_entry ExprBreak e = refl
clear_entry ExprReturn e = refl
clear_entry ExprYield e = refl
clear_entry ExprRange e = refl
clear_entry ExprAttributed e = refl
clear_entry ExprUnary e = refl
clear_entry ExprRawAddr e = refl
clear_entry ExprReference e = refl
clear_entry ExprLet e = refl
clear_entry ExprClosure e = refl
clear_entry ExprRangeClosed e = refl
clear_entry ExprStruct e = refl
clear_entry ExprCall e = refl
clear_entry ExprMethodCall e = refl
clear_entry ExprField e = refl
clear_entry ExprAwait e = refl
clear_entry ExprIndex e = refl
clear_entry ExprTry e = refl
clear_entry ExprCast e = refl
clear_entry ExprAssign e = refl
clear_entry ExprOr e = refl
clear_entry ExprAnd e = refl
clear_entry ExprCompare e = refl
clear_entry ExprBitOr e = refl
clear_entry ExprBitXor e = refl
clear_entry ExprBitAnd e = refl
clear_entry ExprShift e = refl
clear_entry ExprSum e = refl
clear_entry ExprProduct e = refl
clear_entry _ e = absurd (false≢true e)

alone_inside : (k : Kind) → stands_alone k ≡ true → is_inside k ≡ true
alone_inside ExprLit e = refl
alone_inside ExprPath e = refl
alone_inside ExprMacro e = refl
alone_inside ExprParen e = refl
alone_inside ExprArray e = refl
alone_inside ExprRepeat e = refl
alone_inside ExprGroup e = refl
alone_inside ExprInfer e = refl
alone_inside ExprBlock e = refl
alone_inside ExprUnsafe e = refl
alone_inside ExprAsync e = refl
alone_inside ExprConst e = refl
alone_inside ExprTryBlock e = refl
alone_inside ExprIf e = refl
alone_inside ExprMatch e = refl
alone_inside ExprLoop e = refl
alone_inside ExprWhile e = refl
alone_inside ExprForLoop e = refl
alone_inside ExprContinue e = refl
alone_inside ExprTypedClosure e = refl
alone_inside ExprBreak e = refl
alone_inside ExprReturn e = refl
alone_inside ExprYield e = refl
alone_inside ExprRange e = refl
alone_inside _ e = absurd (false≢true e)

before_inside : (k : Kind) → stands_before k ≡ true → is_inside k ≡ true
before_inside ExprAttributed e = refl
before_inside ExprUnary e = refl
before_inside ExprRawAddr e = refl
before_inside ExprReference e = refl
before_inside ExprLet e = refl
before_inside ExprBreak e = refl
before_inside ExprReturn e = refl
before_inside ExprYield e = refl
before_inside ExprClosure e = refl
before_inside ExprRange e = refl
before_inside ExprRangeClosed e = refl
before_inside _ e = absurd (false≢true e)

behind_inside : (k : Kind) → stands_behind k ≡ true → is_inside k ≡ true
behind_inside ExprStruct e = refl
behind_inside ExprCall e = refl
behind_inside ExprMethodCall e = refl
behind_inside ExprField e = refl
behind_inside ExprAwait e = refl
behind_inside ExprIndex e = refl
behind_inside ExprTry e = refl
behind_inside ExprCast e = refl
behind_inside ExprRange e = refl
behind_inside _ e = absurd (false≢true e)

between_inside : (k : Kind) → stands_between k ≡ true → is_inside k ≡ true
between_inside ExprRange e = refl
between_inside ExprRangeClosed e = refl
between_inside ExprAssign e = refl
between_inside ExprOr e = refl
between_inside ExprAnd e = refl
between_inside ExprCompare e = refl
between_inside ExprBitOr e = refl
between_inside ExprBitXor e = refl
between_inside ExprBitAnd e = refl
between_inside ExprShift e = refl
between_inside ExprSum e = refl
between_inside ExprProduct e = refl
between_inside _ e = absurd (false≢true e)

both : (a b : Bool) → (a && b) ≡ true → (a ≡ true) × (b ≡ true)
both true b e = (refl, e)
both false b e = absurd (false≢true e)

-- what such kinds hold has the tokens that were read
bound_tokens : (x : Tree) → flat (listed_bound x) ≡ flat x
bound_tokens (Pair w (Second b)) = refl
bound_tokens (Pair w _) = refl
bound_tokens _ = refl

argument_tokens : (x : Tree) → flat (constant_argument x) ≡ flat x
argument_tokens (Second (First (First x))) = refl
argument_tokens (Second (First (Second x))) = refl
argument_tokens (Second (First _)) = refl
argument_tokens (Second (Second (First (Node Body x)))) = refl
argument_tokens (Second (Second (First (Node _ x)))) = refl
argument_tokens (Second (Second (First _))) = refl
argument_tokens (Second (Second _)) = refl
argument_tokens (Second _) = refl
argument_tokens _ = refl

held_tokens : (k : Kind) (x : Tree) → is_inside k ≡ true → flat (forget k x) ≡ flat x
held_tokens (DynType p) x e = bound_tokens x
held_tokens (ImplType p) x e = bound_tokens x
held_tokens AnArgument x e = argument_tokens x
held_tokens (Path s) x e = refl
held_tokens (Segments s) x e = refl
held_tokens (QualifiedPath s) x e = refl
held_tokens (AnyPath s) x e = refl
held_tokens (AType p) x e = refl
held_tokens (ReturnType p) x e = refl
held_tokens Arguments x e = refl
held_tokens ParenthesizedArguments x e = refl
held_tokens AMacro x e = refl
held_tokens Delimited x e = refl
held_tokens TupleType x e = refl
held_tokens NeverType x e = refl
held_tokens ReferenceType x e = refl
held_tokens PointerType x e = refl
held_tokens BracketType x e = refl
held_tokens InferType x e = refl
held_tokens FnPtrType x e = refl
held_tokens SomeBounds x e = refl
held_tokens Bound x e = refl
held_tokens TraitPath x e = refl
held_tokens BoundLifetimes x e = refl
held_tokens LifetimeParam x e = refl
held_tokens LifetimeColon x e = refl
held_tokens Lifetimes x e = refl
held_tokens Abi x e = refl
held_tokens Pattern x e = refl
held_tokens OnePattern x e = refl
held_tokens IdentPattern x e = refl
held_tokens WildPattern x e = refl
held_tokens RangeToPattern x e = refl
held_tokens RestPattern x e = refl
held_tokens TuplePattern x e = refl
held_tokens SlicePattern x e = refl
held_tokens ReferencePattern x e = refl
held_tokens LiteralPattern x e = refl
held_tokens PathPattern x e = refl
held_tokens RangeEnd x e = refl
held_tokens RangeBound x e = refl
held_tokens FieldPatterns x e = refl
held_tokens OuterAttributes x e = refl
held_tokens OuterAttribute x e = refl
held_tokens FieldValues x e = refl
held_tokens ClosureParam x e = refl
held_tokens Label x e = refl
held_tokens Block x e = refl
held_tokens Body x e = refl
held_tokens (Expression p) x e = refl
held_tokens ExprLit x e = refl
held_tokens ExprPath x e = refl
held_tokens ExprMacro x e = refl
held_tokens ExprParen x e = refl
held_tokens ExprArray x e = refl
held_tokens ExprRepeat x e = refl
held_tokens ExprGroup x e = refl
held_tokens ExprInfer x e = refl
held_tokens ExprBlock x e = refl
held_tokens ExprUnsafe x e = refl
held_tokens ExprAsync x e = refl
held_tokens ExprConst x e = refl
held_tokens ExprTryBlock x e = refl
held_tokens ExprIf x e = refl
held_tokens ExprMatch x e = refl
held_tokens ExprLoop x e = refl
held_tokens ExprWhile x e = refl
held_tokens ExprForLoop x e = refl
held_tokens ExprContinue x e = refl
held_tokens ExprTypedClosure x e = refl
held_tokens ExprBreak x e = refl
held_tokens ExprReturn x e = refl
held_tokens ExprYield x e = refl
held_tokens ExprRange x e = refl
held_tokens ExprAttributed x e = refl
held_tokens ExprUnary x e = refl
held_tokens ExprRawAddr x e = refl
held_tokens ExprReference x e = refl
held_tokens ExprLet x e = refl
held_tokens ExprClosure x e = refl
held_tokens ExprRangeClosed x e = refl
held_tokens ExprStruct x e = refl
held_tokens ExprCall x e = refl
held_tokens ExprMethodCall x e = refl
held_tokens ExprField x e = refl
held_tokens ExprAwait x e = refl
held_tokens ExprIndex x e = refl
held_tokens ExprTry x e = refl
held_tokens ExprCast x e = refl
held_tokens ExprAssign x e = refl
held_tokens ExprOr x e = refl
held_tokens ExprAnd x e = refl
held_tokens ExprCompare x e = refl
held_tokens ExprBitOr x e = refl
held_tokens ExprBitXor x e = refl
held_tokens ExprBitAnd x e = refl
held_tokens ExprShift x e = refl
held_tokens ExprSum x e = refl
held_tokens ExprProduct x e = refl
held_tokens _ x e = absurd (false≢true e)

-- what stands behind a dot ends in no brace
fields_open : (l : Tree) (cs : List ℕ) (texts : List (List ℕ)) → EndsOpen (flat (index_fields (index_field l cs) texts))
fields_open l cs [] =
    ends_behind (flat l) (flat lone_dot ++ Literal (plain_decimal cs) ∷ [])
    (ends_behind (flat lone_dot) (Literal (plain_decimal cs) ∷ []) refl)
fields_open l cs (ds ∷ texts) = fields_open (index_field l cs) ds texts

open_back : (l d i z : Tree) → EndsOpen (flat z) → EndsOpen (flat l ++ ((flat d ++ flat i) ++ flat z))
open_back l d i z e =
    ends_behind (flat l) ((flat d ++ flat i) ++ flat z) (ends_behind (flat d ++ flat i) (flat z) e)

dotted_open : (l : Tree) (k : Kind) (d : Tree) (n : Part) (x z : Tree) → EndsOpen (flat z)
    → EndsOpen (flat (dotted_own l k (Pair (Pair d (Called n x)) z)))
dotted_open l ExprField d the_indices x (Second (Called the_value (ALiteral cs))) e =
    fields_open (fields_in_front l x) (before_dot cs) (texts_of (behind_dots cs))
dotted_open l k d the_indices x z e = open_back (fields_in_front l x) d (Called the_indices End) z e
dotted_open l k d n x z e = open_back l d (Called n x) z e

closed : (us : List Token) (d : Delimiter) → d ≡ Parenthesis → EndsOpen (Opens d ∷ us ++ Closes d ∷ [])
closed us d e =
    subst (λ c. EndsOpen (Opens c ∷ us ++ Closes c ∷ [])) (sym e)
    (ends_behind (Opens Parenthesis ∷ us) (Closes Parenthesis ∷ []) refl)

back_keeps : (l : Tree) (k : Kind) (y : Tree) → IsShaped y (table k) → Keeps (flat l) (flat (kept l))
    → Keeps (flat y) (flat (kept y)) → Keeps (flat l ++ flat y) (flat (dotted (kept l) k (kept y)))
unfolding table
back_keeps l ExprAwait (Pair (Pair d (Called n x)) (AWord cs)) h f g =
    to_open _ _ (dotted_open (kept l) ExprAwait (kept d) n (kept x) (AWord cs) refl)
back_keeps l ExprAwait (Pair (Pair d (Called n x)) _) h f g = absurd h.1
back_keeps l ExprAwait (Pair (Pair d _) _) h f g = absurd h.0.1
back_keeps l ExprAwait (Pair _ _) h f g = absurd h.0
back_keeps l ExprAwait _ h f g = absurd h
back_keeps l ExprField (Pair (Pair d (Called n x)) (First (Called m (AWord cs)))) h f g =
    to_open _ _ (dotted_open (kept l) ExprField (kept d) n (kept x) (First (Called m (AWord cs))) refl)
back_keeps l ExprField (Pair (Pair d (Called n x)) (First (Called m _))) h f g = absurd h.1.1
back_keeps l ExprField (Pair (Pair d (Called n x)) (First _)) h f g = absurd h.1
back_keeps l ExprField (Pair (Pair d (Called n x)) (Second (Called m (ALiteral cs)))) h f g =
    to_open _ _ (dotted_open (kept l) ExprField (kept d) n (kept x) (Second (Called m (ALiteral cs))) refl)
back_keeps l ExprField (Pair (Pair d (Called n x)) (Second (Called m _))) h f g = absurd h.1.1
back_keeps l ExprField (Pair (Pair d (Called n x)) (Second _)) h f g = absurd h.1
back_keeps l ExprField (Pair (Pair d (Called n x)) _) h f g = absurd h.1
back_keeps l ExprField (Pair (Pair d _) _) h f g = absurd h.0.1
back_keeps l ExprField (Pair _ _) h f g = absurd h.0
back_keeps l ExprField _ h f g = absurd h
back_keeps l ExprMethodCall (Pair (Pair d (Called n x)) (Pair i (Pair a (Group c y)))) h f g =
    to_open _ _ (dotted_open (kept l) ExprMethodCall (kept d) n (kept x)
    (Pair (kept i) (Pair (kept a) (Group c (kept y))))
    (ends_behind (flat (kept i)) _ (ends_behind (flat (kept a)) _ (closed (flat (kept y)) c h.1.1.1.0))))
back_keeps l ExprMethodCall (Pair (Pair d (Called n x)) (Pair i (Pair a _))) h f g = absurd h.1.1.1
back_keeps l ExprMethodCall (Pair (Pair d (Called n x)) (Pair i _)) h f g = absurd h.1.1
back_keeps l ExprMethodCall (Pair (Pair d (Called n x)) _) h f g = absurd h.1
back_keeps l ExprMethodCall (Pair (Pair d _) _) h f g = absurd h.0.1
back_keeps l ExprMethodCall (Pair _ _) h f g = absurd h.0
back_keeps l ExprMethodCall _ h f g = absurd h
back_keeps l k y h f g = two (flat l) (flat (kept l)) (flat y) (flat (kept y)) f g

mutual
  tree_keeps : (x : Tree) (g : Gram) → IsShaped x g → is_clear g ≡ true → Keeps (flat x) (flat (kept x))
  tree_keeps (AWord cs) (word p) h c = same (Ident cs ∷ [])
  tree_keeps (ALiteral cs) (literal p) h c = same (Literal cs ∷ [])
  tree_keeps (AMark d ds i) (mark e es) h c = to_open (marks d ds i) (marks d ds Apart) (marked d ds Apart)
  tree_keeps (ALifetime cs) lifetime h c = same (flat (ALifetime cs))
  tree_keeps (Raw ts) raw h c = same ts
  tree_keeps Nil nothing h c = none
  tree_keeps (Pair x y) (seq a b) h c =
      let q = both (is_clear a) (is_clear b) c in
      two (flat x) (flat (kept x)) (flat y) (flat (kept y)) (tree_keeps x a h.0 q.0) (tree_keeps y b h.1 q.1)
  tree_keeps (First x) (alt t a b) h c = tree_keeps x a h (both (is_clear a) (is_clear b) c).0
  tree_keeps (Second x) (alt t a b) h c = tree_keeps x b h (both (is_clear a) (is_clear b) c).1
  tree_keeps End (star t g) h c = none
  tree_keeps (Again x y) (star t g) h c =
      two (flat x) (flat (kept x)) (flat y) (flat (kept y)) (tree_keeps x g h.0 c) (tree_keeps y (star t g) h.1 c)
  tree_keeps End (many e m g) h c = none
  tree_keeps (Final x) (many e m g) h c = tree_keeps x g h c
  tree_keeps (More x d i y) (many e m g) h c =
      two (flat x) (flat (kept x)) (Punct d i ∷ flat y) (Punct d Apart ∷ flat (kept y)) (tree_keeps x g h.1 c)
      (two (Punct d i ∷ []) (Punct d Apart ∷ []) (flat y) (flat (kept y)) (to_open (Punct d i ∷ []) (Punct d Apart ∷ [])
      refl) (tree_keeps y (many e m g) h.2 c))
  tree_keeps (Group d x) (group e g) h c = grouped d (flat x) (flat (kept x))
  tree_keeps (First x) (judged v g) h c = tree_keeps x g h.1 c
  tree_keeps (Verbatim x) (judged v g) h c = same (flat x)
  tree_keeps (Dropped x) (dropped g) h c = absurd (false≢true c)
  tree_keeps (Called n x) (called m g) h c = tree_keeps x g h.1 c
  tree_keeps (Node k x) (ref l) h c =
      let i : is_inside k ≡ true = subst (λ j. is_inside j ≡ true) (sym h.0) c in
      subst (Keeps (flat x)) (sym (held_tokens k (kept x) i)) (tree_keeps x (table k) h.1 (clear_entry k i))
  tree_keeps (Whole x) (operand p n) h c = form_keeps x h
  tree_keeps _ _ h c = absurd h

  form_keeps : (x : Tree) → AreForms x → Keeps (flat x) (flat (kept x))
  form_keeps (Alone k y) h = tree_keeps y (table k) h.1 (clear_entry k (alone_inside k h.0))
  form_keeps (Front k y x) h =
      two (flat y) (flat (kept y)) (flat x) (flat (kept x))
      (tree_keeps y (table k) h.1 (clear_entry k (before_inside k h.0))) (form_keeps x h.3)
  form_keeps (Back l k y) h =
      back_keeps l k y h.3 (form_keeps l h.2) (tree_keeps y (table k) h.3 (clear_entry k (behind_inside k h.0)))
  form_keeps (Infix l k y r) h =
      two (flat l) (flat (kept l)) (flat y ++ flat r) (flat (kept y) ++ flat (kept r)) (form_keeps l h.2)
      (two (flat y) (flat (kept y)) (flat r) (flat (kept r))
      (tree_keeps y (table k) h.3 (clear_entry k (between_inside k h.0))) (form_keeps r h.4))
  form_keeps _ h = absurd h

pub open_kept : (x : Tree) → AreForms x → ends_in_braces (flat x) ≡ false → ends_in_braces (flat (kept x)) ≡ false
open_kept x h e = form_keeps x h [] [] (λ i. i) e
