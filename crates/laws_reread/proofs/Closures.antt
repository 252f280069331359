-- The own part of a closure is read wherever its form may stand: between its bars none stands but in groups, and none
-- does behind a for before it.
use Rattle.std.proofs.Common.{◌≡◌, ℕ, List, [], ◌∷◌, ◌++◌, refl, sym, ap, ◌∙◌, subst, append_assoc}
use Rattle.std.specs.Prelude.{Bool, true, false, ◌||◌, ◌==◌, cond, Option, Some, None, codes}
use Prim.Native.String.{String}
use Rattle.std.proofs.lemmas.Slice.Eq.{bytes_eq-Decides}
use Rattle.proc_macro2.specs.Token.{Token, Opens, Closes, Ident, Literal, Punct}
use Rattle.rust_leaf.specs.declared.punct.Spacing.{Spacing}
use Rattle.rust_leaf.specs.declared.punct.Spacing.TheVariants.{Alone as Apart, Joint}
use Rattle.syn_grammar.specs.Kind.{Kind, Position, InModule, InExpression, InType, AtType, WithPlus, WithoutPlus}
use Rattle.syn_grammar.specs.Kind.{Path, Segments, Segment, QualifiedPath, AnyPath, AType, DynType, ImplType}
use Rattle.syn_grammar.specs.Kind.{ReturnType, ExprClosure, ExprTypedClosure, Arguments, AnArgument}
use Rattle.syn_grammar.specs.Kind.{ParenthesizedArguments, AMacro, Delimited, Member, Index, TupleType, NeverType}
use Rattle.syn_grammar.specs.Kind.{ReferenceType, PointerType, BracketType, InferType, FnPtrType, FnPtrArg}
use Rattle.syn_grammar.specs.Kind.{SomeBounds, Bounds, Bound, TraitPath, BoundLifetimes, Lifetimes, Abi, OnePattern}
use Rattle.syn_grammar.specs.Kind.{IdentPattern, WildPattern, RangeToPattern, RestPattern, TuplePattern}
use Rattle.syn_grammar.specs.Kind.{SlicePattern, ReferencePattern, LiteralPattern, PathPattern, RangeEnd}
use Rattle.syn_grammar.specs.Kind.{RangeBound, FieldPatterns, OuterAttributes, OuterAttribute, LifetimeParam}
use Rattle.syn_grammar.specs.Kind.{LifetimeColon, Body, ClosureParam}
use Rattle.syn_grammar.specs.Words.{is_bool}
use Rattle.rust_leaf.specs.Keywords.{is_reserved, same_text}
use Rattle.syn_grammar.specs.Tree.{Tree, AWord, AMark, Nil, Pair, First, Second, marks as signs, flat}
use Rattle.syn_grammar.specs.Gram.{many, ref}
use Rattle.syn_grammar.specs.Look.{Look, a_lifetime, first_seen, seen, sees, behind, ◌then◌, ◌or◌}
use Rattle.syn_grammar.specs.Say.{at, optional, keyword, marks, comma}
use Rattle.syn_grammar.specs.Table.{table}
use Rattle.syn_grammar.specs.Derives.{Derives}
use Rattle.syn_grammar.specs.Kept.{kept}
use Rattle.syn_grammar.specs.Normal.{normal}
use Rattle.syn_grammar.specs.Forms.{front, past_bar}
use Rattle.syn_grammar.specs.Statements.{item_stands}
use Rattle.laws_binding.proofs.Begun.{is_front}
use Rattle.laws_binding.proofs.Sights.{is_back}
use Rattle.laws_reread_expressions.specs.Behind.{no_operand, BeforeOperand}
use Rattle.laws_reread_expressions.specs.Formed.{IsFront}
use Rattle.laws_reread_expressions.proofs.Bools.{or_parts}
use Rattle.laws_reread_kinds.proofs.Fits.{Fits}
use Rattle.laws_reread_kinds.proofs.Readies.{OwnReady}
use Rattle.syn_grammar.proofs.Whole.{and_true}
use Rattle.laws_reread_kinds.specs.Covered.{is_bound, is_plain_part}
use Rattle.laws_reread_kinds.proofs.Choices.{second_seen}
use Rattle.laws_reread.proofs.Lesser.{if_same}
use Rattle.laws_reread.proofs.Quiet.{IsQuiet, quiet}

-- the kinds that stand in a closure's parameters, and in these
abbrev pub is_calm : Kind → Bool
is_calm (Path s) = true
is_calm (Segments s) = true
is_calm (Segment s) = true
is_calm (QualifiedPath s) = true
is_calm (AnyPath s) = true
is_calm (AType p) = true
is_calm (DynType p) = true
is_calm (ImplType p) = true
is_calm (ReturnType p) = true
is_calm Arguments = true
is_calm AnArgument = true
is_calm ParenthesizedArguments = true
is_calm AMacro = true
is_calm Delimited = true
is_calm Member = true
is_calm Index = true
is_calm TupleType = true
is_calm NeverType = true
is_calm ReferenceType = true
is_calm PointerType = true
is_calm BracketType = true
is_calm InferType = true
is_calm FnPtrType = true
is_calm FnPtrArg = true
is_calm SomeBounds = true
is_calm Bounds = true
is_calm Bound = true
is_calm TraitPath = true
is_calm BoundLifetimes = true
is_calm Lifetimes = true
is_calm Abi = true
is_calm OnePattern = true
is_calm IdentPattern = true
is_calm WildPattern = true
is_calm RangeToPattern = true
is_calm RestPattern = true
is_calm TuplePattern = true
is_calm SlicePattern = true
is_calm ReferencePattern = true
is_calm LiteralPattern = true
is_calm PathPattern = true
is_calm RangeEnd = true
is_calm RangeBound = true
is_calm FieldPatterns = true
is_calm OuterAttributes = true
is_calm OuterAttribute = true
is_calm LifetimeParam = true
is_calm LifetimeColon = true
is_calm Body = true
is_calm ClosureParam = true
is_calm k = false

pub calm_entry : (k : Kind) → is_calm k ≡ true → IsQuiet 124 is_calm false (table k) ≡ true
unfolding table
calm_entry (Path InModule) e = refl
calm_entry (Path InExpression) e = refl
calm_entry (Path InType) e = refl
calm_entry (Path AtType) e = refl
calm_entry (Segments InModule) e = refl
calm_entry (Segments InExpression) e = refl
calm_entry (Segments InType) e = refl
calm_entry (Segments AtType) e = refl
calm_entry (Segment InModule) e = refl
calm_entry (Segment InExpression) e = refl
calm_entry (Segment InType) e = refl
calm_entry (Segment AtType) e = refl
calm_entry (QualifiedPath InModule) e = refl
calm_entry (QualifiedPath InExpression) e = refl
calm_entry (QualifiedPath InType) e = refl
calm_entry (QualifiedPath AtType) e = refl
calm_entry (AnyPath InModule) e = refl
calm_entry (AnyPath InExpression) e = refl
calm_entry (AnyPath InType) e = refl
calm_entry (AnyPath AtType) e = refl
calm_entry (AType WithPlus) e = refl
calm_entry (AType WithoutPlus) e = refl
calm_entry (DynType WithPlus) e = refl
calm_entry (DynType WithoutPlus) e = refl
calm_entry (ImplType WithPlus) e = refl
calm_entry (ImplType WithoutPlus) e = refl
calm_entry (ReturnType WithPlus) e = refl
calm_entry (ReturnType WithoutPlus) e = refl
calm_entry _ e = cc

pub no_form : false ≡ true → (k : Kind) → (is_front k || is_back k) ≡ true → IsQuiet 124 is_calm false (table k) ≡ true
no_form e k f = cc

pub bar_behind : (x : Tree) (r ts : List Token) → Derives x (many (sees (marks "|")) comma (ref ClosureParam)) r
    → past_bar (flat x ++ ts) ≡ past_bar ts
bar_behind x r ts d = quiet 124 is_calm false refl calm_entry no_form x _ r d refl ts

-- the words before the first bar
abbrev word_if : Bool → String → List Token → List Token
word_if true w us = Ident (codes w) ∷ us
word_if false w us = us

abbrev words : Bool → Bool → Bool → Bool → List Token → List Token
words c s a m us = word_if c "const" (word_if s "static" (word_if a "async" (word_if m "move" us)))

record Word (w : String) (x : Tree) : Type 0 where
  stands : Bool
  is : (us : List Token) → flat x ++ us ≡ word_if stands w us

a_word : (w : String) (l : Look) (x : Tree) → Fits x (optional l (keyword w)) → Word w x
a_word w l (First (AWord cs)) f = record {
  stands = true;
  is = λ us. ap (λ v. Ident v ∷ us) (sym ((bytes_eq-Decides (codes w) cs).0 f.1));
}
a_word w l (First _) f = absurd f.1
a_word w l (Second Nil) f = record { stands = false; is = λ us. refl }
a_word w l (Second _) f = absurd f.1
a_word w l _ f = absurd f

no_none : (b : Bool) → seen (cond b None None) ≡ true → ⊥
no_none true e = cc
no_none false e = cc

-- the form that they begin
abbrev typed : Bool → Option Kind
typed b = cond b (Some ExprTypedClosure) (Some ExprClosure)

abbrev IsClosure : List Token → List Token → Type 0
IsClosure us ws =
    ((p : Position) → front p us ≡ typed (seen (behind (past_bar ws) (marks "->")))) × (sees no_operand us ≡ false)
    × (sees item_stands us ≡ false)

closure_front : (c s a m : Bool) (ws : List Token) → IsClosure (words c s a m (Punct 124 Apart ∷ ws)) ws
unfolding front is_bool is_reserved
closure_front true true true true ws = (λ p. refl, refl, refl)
closure_front true true true false ws = (λ p. refl, refl, refl)
closure_front true true false true ws = (λ p. refl, refl, refl)
closure_front true true false false ws = (λ p. refl, refl, refl)
closure_front true false true true ws = (λ p. refl, refl, refl)
closure_front true false true false ws = (λ p. refl, refl, refl)
closure_front true false false true ws = (λ p. refl, refl, refl)
closure_front true false false false ws = (λ p. refl, refl, refl)
closure_front false true true true ws = (λ p. refl, refl, refl)
closure_front false true true false ws = (λ p. refl, refl, refl)
closure_front false true false true ws = (λ p. refl, refl, refl)
closure_front false true false false ws = (λ p. refl, refl, refl)
closure_front false false true true ws = (λ p. refl, refl, refl)
closure_front false false true false ws = (λ p. refl, refl, refl)
closure_front false false false true ws = (λ p. refl, refl, refl)
closure_front false false false false ws = (λ p. refl, refl, refl)

abbrev barred : Tree → List Token → List Token
barred ps ts = Punct 124 Apart ∷ (flat ps ++ Punct 124 Apart ∷ ts)

bar : (c : ℕ) (cs : List ℕ) (i : Spacing) (ts : List Token) → c ≡ 124 → cs ≡ [] → Apart ≡ i
    → signs c cs i ++ ts ≡ Punct 124 Apart ∷ ts
bar c cs i ts e f g =
    ap (λ d. signs d cs i ++ ts) e ∙ ap (λ ds. signs 124 ds i ++ ts) f ∙ ap (λ j. Punct 124 j ∷ ts) (sym g)

-- behind for, where its lifetimes begin
abbrev lifetimes_stand : Look
lifetimes_stand = marks "<" then (a_lifetime or marks ">")

if_more : (b : Bool) (us vs : List Token) → seen (cond b (Some us) None) ≡ true → seen (cond b (Some vs) None) ≡ true
if_more true us vs e = refl
if_more false us vs e = cc e

greater_more : (c : ℕ) (i : Spacing) (us ts : List Token) → sees (marks ">") (Punct c i ∷ us) ≡ true
    → sees (a_lifetime or marks ">") (Punct c i ∷ us ++ ts) ≡ true
greater_more c i us ts e =
    second_seen (a_lifetime (Punct c i ∷ us ++ ts)) (marks ">" (Punct c i ∷ us ++ ts))
    (if_more (c == 62) us (us ++ ts) e)

tick_more : (us ts : List Token) → sees (a_lifetime or marks ">") us ≡ true
    → sees (a_lifetime or marks ">") (us ++ ts) ≡ true
tick_more (Punct c Apart ∷ us) ts e = greater_more c Apart us ts e
tick_more (Punct c Joint ∷ Ident cs ∷ us) ts e = go (c == 39) (c == 62) e
  where
    go : (a b : Bool) → seen (first_seen (cond a (Some us) None) (cond b (Some (Ident cs ∷ us)) None)) ≡ true
        → seen (first_seen (cond a (Some (us ++ ts)) None) (cond b (Some (Ident cs ∷ us ++ ts)) None)) ≡ true
    go true b e = refl
    go false true e = refl
    go false false e = cc e
tick_more (Punct c Joint ∷ []) ts e = greater_more c Joint [] ts e
tick_more (Punct c Joint ∷ Literal cs ∷ us) ts e = greater_more c Joint (Literal cs ∷ us) ts e
tick_more (Punct c Joint ∷ Punct d i ∷ us) ts e = greater_more c Joint (Punct d i ∷ us) ts e
tick_more (Punct c Joint ∷ Opens d ∷ us) ts e = greater_more c Joint (Opens d ∷ us) ts e
tick_more (Punct c Joint ∷ Closes d ∷ us) ts e = greater_more c Joint (Closes d ∷ us) ts e
tick_more _ ts e = cc e

less_more : (us ts : List Token) → sees lifetimes_stand us ≡ true → sees lifetimes_stand (us ++ ts) ≡ true
less_more (Punct c i ∷ us) ts e = go (c == 60) e
  where
    go : (b : Bool) → seen (behind (cond b (Some us) None) (a_lifetime or marks ">")) ≡ true
        → seen (behind (cond b (Some (us ++ ts)) None) (a_lifetime or marks ">")) ≡ true
    go true e = tick_more us ts e
    go false e = cc e
less_more _ ts e = cc e

record Lifetimed (us : List Token) : Type 0 where
  rest : List Token
  is : us ≡ Ident (codes "for") ∷ rest
  stand : (ts : List Token) → sees lifetimes_stand (rest ++ ts) ≡ true

for_there : (us : List Token) → sees (at "for" then lifetimes_stand) us ≡ true → Lifetimed us
for_there (Ident cs ∷ us) e = go (same_text (codes "for") cs) refl e
  where
    go : (b : Bool) → same_text (codes "for") cs ≡ b → seen (behind (cond b (Some us) None) lifetimes_stand) ≡ true
        → Lifetimed (Ident cs ∷ us)
    go true i e = record {
      rest = us;
      is = ap (λ v. Ident v ∷ us) (sym ((bytes_eq-Decides (codes "for") cs).0 i));
      stand = λ ts. less_more us ts e;
    }
    go false i e = cc e
for_there _ e = cc e

for_front : (us : List Token) → sees lifetimes_stand us ≡ true → (p : Position)
    → front p (Ident (codes "for") ∷ us) ≡ typed (seen (behind (past_bar us) (past_bar then marks "->")))
unfolding front is_bool is_reserved
for_front us e p = go (lifetimes_stand us) refl e
  where
    go : (o : Option (List Token)) → lifetimes_stand us ≡ o → seen o ≡ true
        → front p (Ident (codes "for") ∷ us) ≡ typed (seen (behind (past_bar us) (past_bar then marks "->")))
    go (Some vs) i e = rw i refl
    go None i e = cc e

bound_closure : (b : Tree) (r us ws : List Token) → sees (at "for" then lifetimes_stand) (flat b) ≡ true
    → Derives b (ref BoundLifetimes) r → past_bar us ≡ Some ws → IsClosure (flat b ++ us) ws
bound_closure b r us ws e d q = (
  λ p. ap (λ vs. front p (vs ++ us)) h.is ∙ for_front (h.rest ++ us) (h.stand us) p
      ∙ ap (λ o. typed (seen (behind o (past_bar then marks "->")))) past,
  ap (λ vs. sees no_operand (vs ++ us)) h.is,
  ap (λ vs. sees item_stands (vs ++ us)) h.is,
)
  where
    h : Lifetimed (flat b)
    h = for_there (flat b) e

    past : past_bar (h.rest ++ us) ≡ Some ws
    past =
        sym (ap (λ vs. past_bar (vs ++ us)) h.is)
        ∙ quiet 124 is_calm false refl calm_entry no_form b (ref BoundLifetimes) r d refl us ∙ q

word_past : (b : Bool) (w : String) (us : List Token) → past_bar (word_if b w us) ≡ past_bar us
word_past true w us = refl
word_past false w us = refl

words_past : (c s a m : Bool) (ws : List Token) → past_bar (words c s a m (Punct 124 Apart ∷ ws)) ≡ Some ws
words_past c s a m ws =
    word_past c "const" _ ∙ word_past s "static" _ ∙ word_past a "async" _ ∙ word_past m "move" _

record Closure (y : Tree) : Type 0 where
  params : Tree
  read : (r : List Token) → Derives y (table ExprClosure) r
      → (q : List Token) × Derives params (many (sees (marks "|")) comma (ref ClosureParam)) q
  stands : (ts : List Token) → IsClosure (flat y ++ ts) (flat params ++ Punct 124 Apart ∷ ts)

closure : (y : Tree) → Fits y (table ExprClosure) → is_plain_part ExprClosure y ≡ true → (q : List Token)
    → Derives y (table ExprClosure) q → Closure y
unfolding table
closure (Pair o (Pair c (Pair s (Pair a (Pair m (Pair (AMark d ds i) (Pair ps (AMark e es j)))))))) f u q g =
    record { params = ps; read = λ r g. (_, g.1.1.1.1.1.1.0); stands = λ ts. go o f.0 u g.0 ts }
  where
    z : Tree
    z = Pair c (Pair s (Pair a (Pair m (Pair (AMark d ds i) (Pair ps (AMark e es j))))))

    cw : Word "const" c
    cw = a_word "const" _ c f.1.0

    sw : Word "static" s
    sw = a_word "static" _ s f.1.1.0

    aw : Word "async" a
    aw = a_word "async" _ a f.1.1.1.0

    mw : Word "move" m
    mw = a_word "move" _ m f.1.1.1.1.0

    is : (ts : List Token) → flat z ++ ts ≡ words cw.stands sw.stands aw.stands mw.stands (barred ps ts)
    is ts =
        let b = f.1.1.1.1.1 in
        append_assoc (flat c) _ ts ∙ cw.is _
        ∙ ap (word_if cw.stands "const") (append_assoc (flat s) _ ts ∙ sw.is _
        ∙ ap (word_if sw.stands "static") (append_assoc (flat a) _ ts ∙ aw.is _
        ∙ ap (word_if aw.stands "async") (append_assoc (flat m) _ ts ∙ mw.is _
        ∙ ap (word_if mw.stands "move") (append_assoc (signs d ds i) _ ts ∙ bar d ds i _ b.0.0 b.0.1 b.0.2
        ∙ ap (λ us. Punct 124 Apart ∷ us) (append_assoc (flat ps) _ ts
        ∙ ap (λ us. flat ps ++ us) (bar e es j ts b.1.1.0 b.1.1.1 b.1.1.2))))))

    go : (o : Tree) → Fits o (optional (at "for") (ref BoundLifetimes)) → is_bound o ≡ true
        → Derives o (optional (at "for") (ref BoundLifetimes)) (flat z ++ q) → (ts : List Token)
        → IsClosure ((flat o ++ flat z) ++ ts) (flat ps ++ Punct 124 Apart ∷ ts)
    go (Second Nil) f u g ts =
        subst (λ us. IsClosure us (flat ps ++ Punct 124 Apart ∷ ts)) (sym (is ts))
        (closure_front cw.stands sw.stands aw.stands mw.stands (flat ps ++ Punct 124 Apart ∷ ts))
    go (First b) f u g ts =
        subst (λ us. IsClosure us (flat ps ++ Punct 124 Apart ∷ ts)) (sym (append_assoc (flat b) (flat z) ts))
        (bound_closure b (flat z ++ q) (flat z ++ ts) (flat ps ++ Punct 124 Apart ∷ ts) u g.1
        (ap past_bar (is ts)
        ∙ words_past cw.stands sw.stands aw.stands mw.stands (flat ps ++ Punct 124 Apart ∷ ts)))
    go (Second _) f u g ts = absurd f.1
    go _ f u g ts = absurd f
closure (Pair o (Pair c (Pair s (Pair a (Pair m (Pair (AMark d ds i) (Pair ps _))))))) f u q g = absurd f.1.1.1.1.1.1.1
closure (Pair o (Pair c (Pair s (Pair a (Pair m (Pair (AMark d ds i) _)))))) f u q g = absurd f.1.1.1.1.1.1
closure (Pair o (Pair c (Pair s (Pair a (Pair m (Pair _ z)))))) f u q g = absurd f.1.1.1.1.1.0
closure (Pair o (Pair c (Pair s (Pair a (Pair m _))))) f u q g = absurd f.1.1.1.1.1
closure (Pair o (Pair c (Pair s (Pair a _)))) f u q g = absurd f.1.1.1.1
closure (Pair o (Pair c (Pair s _))) f u q g = absurd f.1.1.1
closure (Pair o (Pair c _)) f u q g = absurd f.1.1
closure (Pair o _) f u q g = absurd f.1
closure _ f u q g = absurd f

-- what begins with an arrow, before more
more_arrow : (ts us : List Token) → sees (marks "->") ts ≡ true → sees (marks "->") (ts ++ us) ≡ true
more_arrow (Punct c Joint ∷ Punct d i ∷ ts) us e =
    sym (if_same (c == 45) (cond (d == 62) (Some ts) None) (cond (d == 62) (Some (ts ++ us)) None)
    (if_same (d == 62) (Some ts) (Some (ts ++ us)) refl)) ∙ e
more_arrow (Punct c Joint ∷ _) us e = absurd (no_none (c == 45) e)
more_arrow (Punct c Apart ∷ ts) us e = cc
more_arrow _ us e = cc

pub closure_part : (y : Tree) → Fits y (table ExprClosure) → is_plain_part ExprClosure y ≡ true → OwnReady ExprClosure y
    → flat (normal (kept y)) ≡ flat y → IsFront (BeforeOperand ExprClosure y) ExprClosure y
closure_part y f u w n = record {
  begins = λ p ts s m. (z.stands ts).0 p ∙ ap typed (no_type ts m);
  read = λ ts m. (w ts tt).0;
  held = n;
  single = λ ts m. (z.stands ts).1;
}
  where
    z : Closure y
    z = closure y f u [] (w [] tt).0

    no_type : (ts : List Token) → BeforeOperand ExprClosure y ts
        → seen (behind (past_bar (flat z.params ++ Punct 124 Apart ∷ ts)) (marks "->")) ≡ false
    no_type ts m =
        let d = z.read [] (w [] tt).0 in
        ap (λ o. seen (behind o (marks "->"))) (bar_behind z.params d.0 (Punct 124 Apart ∷ ts) d.1)
        ∙ (or_parts (marks "->" ts) _ m.0).0

-- Where it stands no item does.
pub closure_free : (y : Tree) → Fits y (table ExprClosure) → is_plain_part ExprClosure y ≡ true → (q : List Token)
    → Derives y (table ExprClosure) q → (ts : List Token) → sees item_stands (flat y ++ ts) ≡ false
closure_free y f u q d ts = ((closure y f u q d).stands ts).2

pub typed_free : (y : Tree) → Fits y (table ExprTypedClosure) → is_plain_part ExprTypedClosure y ≡ true
    → (q : List Token) → Derives y (table ExprTypedClosure) q → (ts : List Token)
    → sees item_stands (flat y ++ ts) ≡ false
unfolding table
typed_free (Pair (Pair b c) (Pair r v)) f u q d ts =
    ap (sees item_stands) (append_assoc (flat (Pair b c)) (flat (Pair r v)) ts)
    ∙ closure_free (Pair b c) f.0 (and_true (is_bound b) (sees (marks "->") (flat r)) u).0 (flat (Pair r v) ++ q) d.0
    (flat (Pair r v) ++ ts)
typed_free (Pair (Pair b c) _) f u q d ts = absurd f.1
typed_free (Pair _ z) f u q d ts = absurd f.0
typed_free _ f u q d ts = absurd f

-- and of one with a type: behind its bars begins an arrow
pub typed_part : (M : List Token → Type 0) (y : Tree) → Fits y (table ExprTypedClosure)
    → is_plain_part ExprTypedClosure y ≡ true
    → OwnReady ExprTypedClosure y → flat (normal (kept y)) ≡ flat y → IsFront M ExprTypedClosure y
unfolding table
typed_part M (Pair (Pair b c) (Pair r v)) f u w n = record {
  begins = λ p ts s m. (at_words ts).0 p ∙ ap typed (arrow ts);
  read = λ ts m. (w ts tt).0;
  held = n;
  single = λ ts m. (at_words ts).1;
}
  where
    z : Closure (Pair b c)
    z = closure (Pair b c) f.0 (and_true (is_bound b) (sees (marks "->") (flat r)) u).0 (flat (Pair r v) ++ [])
        (w [] tt).0.0

    past : List Token → List Token
    past ts = flat z.params ++ Punct 124 Apart ∷ (flat (Pair r v) ++ ts)

    at_words : (ts : List Token) → IsClosure (flat (Pair (Pair b c) (Pair r v)) ++ ts) (past ts)
    at_words ts =
        subst (λ us. IsClosure us (past ts)) (sym (append_assoc (flat (Pair b c)) (flat (Pair r v)) ts))
        (z.stands (flat (Pair r v) ++ ts))

    arrow : (ts : List Token) → seen (behind (past_bar (past ts)) (marks "->")) ≡ true
    arrow ts =
        let d = z.read (flat (Pair r v) ++ []) (w [] tt).0.0 in
        ap (λ o. seen (behind o (marks "->")))
        (bar_behind z.params d.0 (Punct 124 Apart ∷ (flat (Pair r v) ++ ts)) d.1)
        ∙ ap (sees (marks "->")) (append_assoc (flat r) (flat v) ts)
        ∙ more_arrow (flat r) (flat v ++ ts) (and_true (is_bound b) (sees (marks "->") (flat r)) u).1
typed_part M (Pair (Pair b c) _) f u w n = absurd f.1
typed_part M (Pair _ z) f u w n = absurd f.0
typed_part M _ f u w n = absurd f
