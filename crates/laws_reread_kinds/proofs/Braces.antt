-- What ends in a brace, of what is read and of what is printed: no else stands behind a value that does. The last form
-- of an expression before else is of a kind that never does, or a macro's call in other marks; so it is printed.
use Rattle.std.proofs.Common.{◌≡◌, ℕ, List, [], ◌∷◌, ◌++◌, refl, sym, ap, ◌∙◌, subst}
use Rattle.std.proofs.Common.{inl, inr}
use Rattle.std.proofs.lemmas.List.{append-nil}
use Rattle.std.specs.Prelude.{Bool, true, false, not, ◌&&◌, ◌||◌, ◌⊎◌, Option, Some, None, codes, cond, nat_eq}
use Rattle.std.proofs.lemmas.Slice.Eq.{bytes_eq-Decides}
use Rattle.std.proofs.lemmas.Bool.{false≢true}
use Rattle.proc_macro2.specs.Token.{Token, Opens, Closes, Ident, Literal, Punct}
use Rattle.proc_macro2.specs.declared.delimiter.Delimiter.{Delimiter}
use Rattle.proc_macro2.specs.declared.delimiter.Delimiter.TheVariants.{Brace}
use Rattle.rust_leaf.specs.declared.punct.Spacing.{Spacing}
use Rattle.rust_leaf.specs.declared.punct.Spacing.TheVariants.{Joint}
use Rattle.syn_grammar.specs.Kind.{Kind, Position, Plain, InCondition, InArm, InStatement, AMacro, Delimited}
use Rattle.syn_grammar.specs.Kind.{ExprBreak, ExprMacro, ExprRange, ExprReturn, ExprYield}
use Rattle.syn_grammar.specs.Name.{the_indices, the_value}
use Rattle.syn_grammar.specs.Words.{before_dot, behind_dots, plain_decimal, texts_of}
use Rattle.rust_leaf.specs.Keywords.{same_text}
use Rattle.syn_grammar.specs.Kind.{AnyPath, Arguments, AtType, AType, Block, Body, Bound, BracketType}
use Rattle.syn_grammar.specs.Kind.{DynType, ExprArray, ExprAsync, ExprAwait, ExprBlock, ExprCall, ExprCast, ExprConst}
use Rattle.syn_grammar.specs.Kind.{ExprContinue, ExprField, ExprForLoop, ExprGroup, ExprIf, ExprIndex, ExprInfer}
use Rattle.syn_grammar.specs.Kind.{ExprLit, ExprLoop, ExprMatch, ExprMethodCall, ExprParen, ExprPath, ExprRepeat}
use Rattle.syn_grammar.specs.Kind.{ExprStruct, ExprTry, ExprTryBlock, ExprTypedClosure, ExprUnsafe, ExprWhile}
use Rattle.syn_grammar.specs.Kind.{FieldValues, FnPtrType, ImplType, InExpression, InferType, NeverType}
use Rattle.syn_grammar.specs.Kind.{ParenthesizedArguments, Path, PointerType, QualifiedPath, ReferenceType}
use Rattle.syn_grammar.specs.Kind.{ReturnType, Segments, SomeBounds, TraitPath, TupleType, WithPlus, WithoutPlus}
use Rattle.syn_grammar.specs.Tree.{Tree, AWord, ALiteral, AMark, ALifetime, Nil, Pair, First, Second, End}
use Rattle.syn_grammar.specs.Tree.{Final, More, Group, Called, Verbatim, Node, Alone, Front, Back}
use Rattle.syn_grammar.specs.Tree.{Infix, marks, flat}
use Rattle.syn_grammar.specs.Gram.{Gram, word, literal, mark, lifetime, raw, nothing, never, seq, alt, star, many}
use Rattle.syn_grammar.specs.Gram.{group, judged, dropped, called, ref, operand}
use Rattle.syn_grammar.specs.Statements.{ends_in_braces}
use Rattle.syn_grammar.specs.Table.{table}
use Rattle.syn_grammar.specs.Derives.{Bound as IsBound, Derives}
use Rattle.syn_grammar.specs.Look.{seen, sees}
use Rattle.syn_grammar.specs.Say.{at}
use Rattle.syn_grammar.specs.Forms.{Case, form, first_form, fronts, front, backs, back, has_right, inside, level}
use Rattle.syn_grammar.specs.Forms.{is_brace_macro}
use Rattle.syn_grammar.specs.Kept.{dotted, fields_in_front, held, index_field, index_fields, kept, lone_dot}
use Rattle.syn_grammar.specs.Normal.{formed, normal, passed}
use Rattle.syn_grammar.specs.Parens.{begins_in, follow, may_lack, parens_unless, stands_in, stays_right}
use Rattle.syn_grammar.specs.Parens.{takes_what_follows, with_left, with_right}
use Rattle.laws_reread_kinds.proofs.Choices.{both_true, is_false}
use Rattle.laws_reread_kinds.specs.After.{is_closed, is_if}
use Rattle.laws_reread_kinds.proofs.Fits.{Fits, FitsForms}
use Rattle.laws_reread_kinds.proofs.Parts.{none_never}

-- tokens behind others
more : (t u : Token) (us : List Token) → ends_in_braces (t ∷ u ∷ us) ≡ ends_in_braces (u ∷ us)
more (Closes Brace) u us = refl
more (Closes _) u us = refl
more (Opens d) u us = refl
more (Ident cs) u us = refl
more (Literal cs) u us = refl
more (Punct c i) u us = refl

behind : (us : List Token) (v : Token) (vs : List Token)
    → ends_in_braces (us ++ v ∷ vs) ≡ ends_in_braces (v ∷ vs)
behind [] v vs = refl
behind (t ∷ []) v vs = more t v vs
behind (t ∷ u ∷ us) v vs = more t u (us ++ v ∷ vs) ∙ behind (u ∷ us) v vs

-- there are some, and they don't end in a brace; or there are none
abbrev pub EndsOpen : List Token → Type 0
EndsOpen [] = ⊥
EndsOpen (t ∷ ts) = ends_in_braces (t ∷ ts) ≡ false

abbrev EndsBy : Bool → List Token → Type 0
EndsBy true ts = EndsOpen ts
EndsBy false ts = (ts ≡ []) ⊎ EndsOpen ts

pub open_behind : (us vs : List Token) → EndsOpen vs → EndsOpen (us ++ vs)
open_behind [] vs e = e
open_behind (t ∷ us) [] e = absurd e
open_behind (t ∷ us) (v ∷ vs) e = behind (t ∷ us) v vs ∙ e

pub open_says : (ts : List Token) → EndsOpen ts → ends_in_braces ts ≡ false
open_says [] e = absurd e
open_says (t ∷ ts) e = e

as_open : (s : Bool) (ts : List Token) → EndsOpen ts → EndsBy s ts
as_open true ts e = e
as_open false ts e = inr e

-- one behind the other
both_end : (s : Bool) (us vs : List Token) → (EndsBy false vs) → (vs ≡ [] → EndsBy s us) → EndsBy s (us ++ vs)
both_end s us vs (inr e) h = as_open s (us ++ vs) (open_behind us vs e)
both_end s us vs (inl e) h = subst (EndsBy s) (sym (ap (λ ws. us ++ ws) e ∙ append-nil us)) (h e)

marks_end : (c : ℕ) (cs : List ℕ) (i : Spacing) → EndsOpen (marks c cs i)
marks_end c [] i = refl
marks_end c (d ∷ ds) i = open_behind (Punct c Joint ∷ []) (marks d ds i) (marks_end d ds i)

abbrev is_brace : Delimiter → Bool
is_brace Brace = true
is_brace d = false

group_end : (d : Delimiter) (us : List Token) → is_brace d ≡ false → EndsOpen (Opens d ∷ us ++ Closes d ∷ [])
group_end Brace us e = absurd (false≢true (sym e))
group_end d us e = open_behind (Opens d ∷ us) (Closes d ∷ []) (closed d e)
  where
    closed : (d : Delimiter) → is_brace d ≡ false → EndsOpen (Closes d ∷ [])
    closed Brace e = absurd (false≢true (sym e))
    closed _ e = refl

mark_then : (c : ℕ) (i : Spacing) (us : List Token) → EndsBy false us → EndsOpen (Punct c i ∷ us)
mark_then c i us (inl e) = subst (λ vs. EndsOpen (Punct c i ∷ vs)) (sym e) refl
mark_then c i us (inr e) = open_behind (Punct c i ∷ []) us e

-- kinds that never end in a brace; and such that may have no tokens
abbrev is_end : Kind → Bool
is_end ExprLit = true
is_end ExprPath = true
is_end ExprParen = true
is_end ExprArray = true
is_end ExprRepeat = true
is_end ExprGroup = true
is_end ExprInfer = true
is_end ExprContinue = true
is_end ExprCall = true
is_end ExprMethodCall = true
is_end ExprField = true
is_end ExprAwait = true
is_end ExprIndex = true
is_end ExprTry = true
is_end ExprCast = true
is_end (AnyPath InExpression) = true
is_end (AnyPath AtType) = true
is_end (QualifiedPath InExpression) = true
is_end (QualifiedPath AtType) = true
is_end (Path InExpression) = true
is_end (Path AtType) = true
is_end (Segments InExpression) = true
is_end (Segments AtType) = true
is_end Arguments = true
is_end ParenthesizedArguments = true
is_end (AType WithPlus) = true
is_end (AType WithoutPlus) = true
is_end TupleType = true
is_end NeverType = true
is_end ReferenceType = true
is_end PointerType = true
is_end BracketType = true
is_end InferType = true
is_end FnPtrType = true
is_end (DynType WithPlus) = true
is_end (DynType WithoutPlus) = true
is_end (ImplType WithPlus) = true
is_end (ImplType WithoutPlus) = true
is_end Bound = true
is_end TraitPath = true
is_end k = false

abbrev is_slight : Kind → Bool
is_slight (ReturnType WithPlus) = true
is_slight (ReturnType WithoutPlus) = true
is_slight SomeBounds = true
is_slight k = false

abbrev ends : Bool → Gram → Bool
ends s (word p) = true
ends s (literal p) = true
ends s (mark c cs) = true
ends s lifetime = true
ends s nothing = not s
ends s never = true
ends s (seq a b) = ends true b || (ends false b && ends s a)
ends s (alt t a b) = ends s a && ends s b
ends s (many e c g) = not s && ends true g
ends s (group d g) = not (is_brace d)
ends s (judged v (many e c g)) = not s && ends true g
ends s (called n g) = ends s g
ends s (ref k) = is_end k || (not s && is_slight k)
ends s _ = false

end_entry : (k : Kind) → is_end k ≡ true → ends true (table k) ≡ true
unfolding table
end_entry ExprLit e = refl
end_entry ExprPath e = refl
end_entry ExprParen e = refl
end_entry ExprArray e = refl
end_entry ExprRepeat e = refl
end_entry ExprGroup e = refl
end_entry ExprInfer e = refl
end_entry ExprContinue e = refl
end_entry ExprCall e = refl
end_entry ExprMethodCall e = refl
end_entry ExprField e = refl
end_entry ExprAwait e = refl
end_entry ExprIndex e = refl
end_entry ExprTry e = refl
end_entry ExprCast e = refl
end_entry (AnyPath InExpression) e = refl
end_entry (AnyPath AtType) e = refl
end_entry (QualifiedPath InExpression) e = refl
end_entry (QualifiedPath AtType) e = refl
end_entry (Path InExpression) e = refl
end_entry (Path AtType) e = refl
end_entry (Segments InExpression) e = refl
end_entry (Segments AtType) e = refl
end_entry Arguments e = refl
end_entry ParenthesizedArguments e = refl
end_entry (AType WithPlus) e = refl
end_entry (AType WithoutPlus) e = refl
end_entry TupleType e = refl
end_entry NeverType e = refl
end_entry ReferenceType e = refl
end_entry PointerType e = refl
end_entry BracketType e = refl
end_entry InferType e = refl
end_entry FnPtrType e = refl
end_entry (DynType WithPlus) e = refl
end_entry (DynType WithoutPlus) e = refl
end_entry (ImplType WithPlus) e = refl
end_entry (ImplType WithoutPlus) e = refl
end_entry Bound e = refl
end_entry TraitPath e = refl
end_entry _ e = absurd (false≢true e)

slight_entry : (k : Kind) → is_slight k ≡ true → ends false (table k) ≡ true
unfolding table
slight_entry (ReturnType WithPlus) e = refl
slight_entry (ReturnType WithoutPlus) e = refl
slight_entry SomeBounds e = refl
slight_entry _ e = absurd (false≢true e)

of_slight : (s : Bool) (k : Kind) (us : List Token) → (not s && is_slight k) ≡ true
    → (is_slight k ≡ true → EndsBy false us) → EndsBy s us
of_slight true k us e h = absurd (false≢true e)
of_slight false k us e h = h e

of_kind : (s : Bool) (k : Kind) (us : List Token) → (is_end k || (not s && is_slight k)) ≡ true
    → (is_end k ≡ true → EndsOpen us) → (is_slight k ≡ true → EndsBy false us) → EndsBy s us
of_kind s k us e h i = go (is_end k) refl e
  where
    go : (b : Bool) → is_end k ≡ b → (b || (not s && is_slight k)) ≡ true → EndsBy s us
    go true j e = as_open s us (h j)
    go false j e = of_slight s k us e i

of_list : (s : Bool) (us : List Token) → not s ≡ true → EndsBy false us → EndsBy s us
of_list true us e h = absurd (false≢true e)
of_list false us e h = h

of_seq : (s : Bool) (a b : Gram) (us vs : List Token) → (ends true b || (ends false b && ends s a)) ≡ true
    → (ends true b ≡ true → EndsOpen vs) → (ends false b ≡ true → EndsBy false vs) → (ends s a ≡ true → EndsBy s us)
    → EndsBy s (us ++ vs)
of_seq s a b us vs e f g h = go (ends true b) refl e
  where
    go : (c : Bool) → ends true b ≡ c → (c || (ends false b && ends s a)) ≡ true → EndsBy s (us ++ vs)
    go true i e = as_open s (us ++ vs) (open_behind us vs (f i))
    go false i e =
        let j = both_true (ends false b) (ends s a) e in
        both_end s us vs (g j.0) (λ k. h j.1)

pub fits_end : (s : Bool) (x : Tree) (g : Gram) → Fits x g → ends s g ≡ true → EndsBy s (flat x)
fits_end s (AWord cs) (word p) f e = as_open s (Ident cs ∷ []) refl
fits_end s (ALiteral cs) (literal p) f e = as_open s (Literal cs ∷ []) refl
fits_end s (AMark c cs i) (mark d ds) f e = as_open s (marks c cs i) (marks_end c cs i)
fits_end s (ALifetime cs) lifetime f e = as_open s (flat (ALifetime cs)) refl
fits_end s Nil nothing f e = of_list s [] e (inl refl)
fits_end s (Pair x y) (seq a b) f e =
    of_seq s a b (flat x) (flat y) e (λ i. fits_end true y b f.1 i) (λ i. fits_end false y b f.1 i)
    (λ i. fits_end s x a f.0 i)
fits_end s (First x) (alt t a b) f e = fits_end s x a f.1 (both_true (ends s a) (ends s b) e).0
fits_end s (Second x) (alt t a b) f e = fits_end s x b f.1 (both_true (ends s a) (ends s b) e).1
fits_end s End (many t c g) f e = of_list s [] (both_true (not s) (ends true g) e).0 (inl refl)
fits_end s (Final x) (many t c g) f e =
    let h = both_true (not s) (ends true g) e in
    of_list s (flat x) h.0 (inr (fits_end true x g f h.1))
fits_end s (More x c i y) (many t m g) f e =
    let h = both_true (not s) (ends true g) e in
    of_list s (flat x ++ Punct c i ∷ flat y) h.0
    (inr (open_behind (flat x) (Punct c i ∷ flat y)
    (mark_then c i (flat y) (fits_end false y (many t m g) f.3 h.1))))
fits_end s (Group d x) (group c g) f e =
    as_open s (Opens d ∷ flat x ++ Closes d ∷ []) (group_end d (flat x) (ap is_brace f.0 ∙ is_false (is_brace c) e))
fits_end s (First x) (judged v (many t c g)) f e =
    let h = both_true (not s) (ends true g) e in
    of_list s (flat x) h.0 (fits_end false x (many t c g) f.1 h.1)
fits_end s (Called n x) (called m g) f e = fits_end s x g f.1 e
fits_end s (Node k x) (ref l) f e =
    of_kind s k (flat x) (ap (λ j. is_end j || (not s && is_slight j)) f.0 ∙ e)
    (λ i. fits_end true x (table k) f.3 (end_entry k i)) (λ i. fits_end false x (table k) f.3 (slight_entry k i))
fits_end s x (judged v (many t c g)) f e = absurd f
fits_end s x (judged v g) f e = absurd (false≢true e)
fits_end s x (star t g) f e = absurd (false≢true e)
fits_end s x raw f e = absurd (false≢true e)
fits_end s x (dropped g) f e = absurd (false≢true e)
fits_end s x (operand p n) f e = absurd (false≢true e)
fits_end s x never f e = absurd (none_never x f)
fits_end s _ _ f e = absurd f

-- kinds that always end in a brace
abbrev is_braced : Kind → Bool
is_braced ExprBlock = true
is_braced ExprUnsafe = true
is_braced ExprAsync = true
is_braced ExprConst = true
is_braced ExprTryBlock = true
is_braced ExprIf = true
is_braced ExprMatch = true
is_braced ExprLoop = true
is_braced ExprWhile = true
is_braced ExprForLoop = true
is_braced ExprTypedClosure = true
is_braced ExprStruct = true
is_braced FieldValues = true
is_braced Block = true
is_braced Body = true
is_braced k = false

abbrev braces : Bool → Gram → Bool
braces s nothing = not s
braces s (seq a b) = braces true b || (braces false b && braces s a)
braces s (alt t a b) = braces s a && braces s b
braces s (group d g) = is_brace d
braces s (judged v g) = braces s g
braces s (called n g) = braces s g
braces s (ref k) = is_braced k
braces s _ = false

braced_entry : (k : Kind) → is_braced k ≡ true → braces true (table k) ≡ true
unfolding table
braced_entry ExprBlock e = refl
braced_entry ExprUnsafe e = refl
braced_entry ExprAsync e = refl
braced_entry ExprConst e = refl
braced_entry ExprTryBlock e = refl
braced_entry ExprIf e = refl
braced_entry ExprMatch e = refl
braced_entry ExprLoop e = refl
braced_entry ExprWhile e = refl
braced_entry ExprForLoop e = refl
braced_entry ExprTypedClosure e = refl
braced_entry ExprStruct e = refl
braced_entry FieldValues e = refl
braced_entry Block e = refl
braced_entry Body e = refl
braced_entry _ e = absurd (false≢true e)

abbrev BracedBy : Bool → List Token → Type 0
BracedBy true ts = ends_in_braces ts ≡ true
BracedBy false ts = (ts ≡ []) ⊎ (ends_in_braces ts ≡ true)

pub brace_behind : (us vs : List Token) → ends_in_braces vs ≡ true → ends_in_braces (us ++ vs) ≡ true
brace_behind us [] e = absurd (false≢true e)
brace_behind us (v ∷ vs) e = behind us v vs ∙ e

as_braced : (s : Bool) (ts : List Token) → ends_in_braces ts ≡ true → BracedBy s ts
as_braced true ts e = e
as_braced false ts e = inr e

braced_seq : (s : Bool) (a b : Gram) (us vs : List Token) → (braces true b || (braces false b && braces s a)) ≡ true
    → (braces true b ≡ true → ends_in_braces vs ≡ true) → (braces false b ≡ true → BracedBy false vs)
    → (braces s a ≡ true → BracedBy s us) → BracedBy s (us ++ vs)
braced_seq s a b us vs e f g h = go (braces true b) refl e
  where
    both : BracedBy false vs → BracedBy s us → BracedBy s (us ++ vs)
    both (inr i) j = as_braced s (us ++ vs) (brace_behind us vs i)
    both (inl i) j = subst (BracedBy s) (sym (ap (λ ws. us ++ ws) i ∙ append-nil us)) j

    go : (c : Bool) → braces true b ≡ c → (c || (braces false b && braces s a)) ≡ true → BracedBy s (us ++ vs)
    go true i e = as_braced s (us ++ vs) (brace_behind us vs (f i))
    go false i e =
        let j = both_true (braces false b) (braces s a) e in
        both (g j.0) (h j.1)

group_braced : (d : Delimiter) (us : List Token) → is_brace d ≡ true
    → ends_in_braces (Opens d ∷ us ++ Closes d ∷ []) ≡ true
group_braced Brace us e = behind (Opens Brace ∷ us) (Closes Brace) []
group_braced _ us e = absurd (false≢true e)

nothing_braced : (s : Bool) → not s ≡ true → BracedBy s []
nothing_braced true e = absurd (false≢true e)
nothing_braced false e = inl refl

pub read_braced : (s : Bool) (x : Tree) (g : Gram) (r : List Token) → Derives x g r → braces s g ≡ true
    → BracedBy s (flat x)
read_braced s Nil nothing r d e = nothing_braced s e
read_braced s (Pair x y) (seq a b) r d e =
    braced_seq s a b (flat x) (flat y) e (λ i. read_braced true y b r d.1 i) (λ i. read_braced false y b r d.1 i)
    (λ i. read_braced s x a (flat y ++ r) d.0 i)
read_braced s (First x) (alt t a b) r d e = read_braced s x a r d.1 (both_true (braces s a) (braces s b) e).0
read_braced s (Second x) (alt t a b) r d e = read_braced s x b r d.1 (both_true (braces s a) (braces s b) e).1
read_braced s (Group c x) (group f g) r d e =
    as_braced s (Opens c ∷ flat x ++ Closes c ∷ []) (group_braced c (flat x) (ap is_brace d.0 ∙ e))
read_braced s (First x) (judged v g) r d e = read_braced s x g r d.1 e
read_braced s (Verbatim x) (judged v g) r d e = read_braced s x g r d.1 e
read_braced s (Called n x) (called m g) r d e = read_braced s x g r d.1 e
read_braced s (Node k x) (ref l) r d e =
    as_braced s (flat x) (read_braced true x (table k) r d.1 (braced_entry k (ap is_braced d.0 ∙ e)))
read_braced s x (word p) r d e = absurd (false≢true e)
read_braced s x (literal p) r d e = absurd (false≢true e)
read_braced s x (mark c cs) r d e = absurd (false≢true e)
read_braced s x lifetime r d e = absurd (false≢true e)
read_braced s x raw r d e = absurd (false≢true e)
read_braced s x never r d e = absurd (false≢true e)
read_braced s x (star t g) r d e = absurd (false≢true e)
read_braced s x (many t c g) r d e = absurd (false≢true e)
read_braced s x (dropped g) r d e = absurd (false≢true e)
read_braced s x (operand p n) r d e = absurd (false≢true e)
read_braced s _ _ r d e = absurd d

-- A macro's call ends in a brace where its tokens stand in braces.
delimited_open : (p b d : Tree) → Fits d (table Delimited)
    → is_brace_macro (Alone ExprMacro (Node AMacro (Pair p (Pair b (Node Delimited d))))) ≡ false → EndsOpen (flat d)
unfolding table
delimited_open p b (First (Group e x)) f n = group_end e (flat x) (ap is_brace f.1.0)
delimited_open p b (First _) f n = absurd f.1
delimited_open p b (Second (First g)) f n = absurd (false≢true (sym n))
delimited_open p b (Second (Second (Group e x))) f n = group_end e (flat x) (ap is_brace f.1.1.0)
delimited_open p b (Second (Second _)) f n = absurd f.1.1
delimited_open p b (Second _) f n = absurd f.1
delimited_open p b _ f n = absurd f

call_open : (z : Tree) → Fits z (table AMacro) → is_brace_macro (Alone ExprMacro (Node AMacro z)) ≡ false
    → EndsOpen (flat z)
unfolding table
call_open (Pair p (Pair b (Node j d))) f n =
    open_behind (flat p) (flat b ++ flat d) (open_behind (flat b) (flat d)
    (delimited_open p b d (subst (λ i. Fits d (table i)) f.1.1.0 f.1.1.3)
    (subst (λ i. is_brace_macro (Alone ExprMacro (Node AMacro (Pair p (Pair b (Node i d))))) ≡ false) f.1.1.0 n)))
call_open (Pair p (Pair b _)) f n = absurd f.1.1
call_open (Pair p _) f n = absurd f.1
call_open _ f n = absurd f

macro_open : (y : Tree) → Fits y (table ExprMacro) → is_brace_macro (Alone ExprMacro y) ≡ false → EndsOpen (flat y)
unfolding table
macro_open (Node k z) f n =
    call_open z (subst (λ i. Fits z (table i)) f.0 f.3)
    (subst (λ i. is_brace_macro (Alone ExprMacro (Node i z)) ≡ false) f.0 n)
macro_open _ f n = absurd f

-- where it was read: so is its normal form
abbrev Same : Tree → Type 0
Same y = is_brace_macro (Alone ExprMacro (normal (kept y))) ≡ is_brace_macro (Alone ExprMacro y)

delimited_same : (p b d : Tree) (r : List Token) → Derives d (table Delimited) r
    → Same (Node AMacro (Pair p (Pair b (Node Delimited d))))
unfolding table held passed
delimited_same p b (First g) r d = refl
delimited_same p b (Second (First g)) r d = refl
delimited_same p b (Second (Second g)) r d = refl
delimited_same p b (Second _) r d = absurd d.1
delimited_same p b _ r d = absurd d

call_same : (z : Tree) (r : List Token) → Derives z (table AMacro) r → Same (Node AMacro z)
unfolding table
call_same (Pair p (Pair b (Node j d))) r h =
    subst (λ i. Same (Node AMacro (Pair p (Pair b (Node i d))))) (sym h.1.1.0)
    (delimited_same p b d r (subst (λ i. Derives d (table i) r) h.1.1.0 h.1.1.1))
call_same (Pair p (Pair b _)) r h = absurd h.1.1
call_same (Pair p _) r h = absurd h.1
call_same _ r h = absurd h

macro_same : (y : Tree) (r : List Token) → Derives y (table ExprMacro) r → Same y
unfolding table
macro_same (Node k z) r d =
    subst (λ i. Same (Node i z)) (sym d.0) (call_same z r (subst (λ i. Derives z (table i) r) d.0 d.1))
macro_same _ r d = absurd d

delimited_braced : (p b d : Tree) (r : List Token) → Derives d (table Delimited) r
    → is_brace_macro (Alone ExprMacro (Node AMacro (Pair p (Pair b (Node Delimited d))))) ≡ true
    → ends_in_braces (flat d) ≡ true
unfolding table
delimited_braced p b (Second (First (Group e x))) r d n = group_braced e (flat x) (ap is_brace d.1.1.0)
delimited_braced p b (Second (First _)) r d n = absurd d.1.1
delimited_braced p b (First g) r d n = absurd (false≢true n)
delimited_braced p b (Second (Second g)) r d n = absurd (false≢true n)
delimited_braced p b (Second _) r d n = absurd d.1
delimited_braced p b _ r d n = absurd d

call_braced : (z : Tree) (r : List Token) → Derives z (table AMacro) r
    → is_brace_macro (Alone ExprMacro (Node AMacro z)) ≡ true → ends_in_braces (flat z) ≡ true
unfolding table
call_braced (Pair p (Pair b (Node j d))) r h n =
    brace_behind (flat p) (flat b ++ flat d) (brace_behind (flat b) (flat d)
    (delimited_braced p b d r (subst (λ i. Derives d (table i) r) h.1.1.0 h.1.1.1)
    (subst (λ i. is_brace_macro (Alone ExprMacro (Node AMacro (Pair p (Pair b (Node i d))))) ≡ true) h.1.1.0 n)))
call_braced (Pair p (Pair b _)) r h n = absurd h.1.1
call_braced (Pair p _) r h n = absurd h.1
call_braced _ r h n = absurd h

macro_braced : (y : Tree) (r : List Token) → Derives y (table ExprMacro) r
    → is_brace_macro (Alone ExprMacro y) ≡ true → ends_in_braces (flat y) ≡ true
unfolding table
macro_braced (Node k z) r d n =
    call_braced z r (subst (λ i. Derives z (table i) r) d.0 d.1)
    (subst (λ i. is_brace_macro (Alone ExprMacro (Node i z)) ≡ true) d.0 n)
macro_braced _ r d n = absurd d

-- An expression whose last form is of a kind that ends in no brace and lacks no operand.
abbrev is_macro : Kind → Bool
is_macro ExprMacro = true
is_macro k = false

abbrev takes_else : Tree → Bool
takes_else (Alone ExprMacro y) = not (is_brace_macro (Alone ExprMacro y))
takes_else (Alone k y) = is_end k
takes_else (Front k y x) = takes_else x
takes_else (Back l k y) = is_end k
takes_else (Infix l k y r) = takes_else r
takes_else x = false

-- it ends in none as it is printed, and else may follow it
fits_open : (x : Tree) → FitsForms x → takes_else x ≡ true → EndsOpen (flat x)
fits_open (Alone ExprMacro y) f e = macro_open y f.1 (is_false (is_brace_macro (Alone ExprMacro y)) e)
fits_open (Alone k y) f e = fits_end true y (table k) f.1 (end_entry k e)
fits_open (Front k y x) f e = open_behind (flat y) (flat x) (fits_open x f.3 e)
fits_open (Back l k y) f e = open_behind (flat l) (flat y) (fits_end true y (table k) f.1 (end_entry k e))
fits_open (Infix l k y r) f e =
    open_behind (flat l) (flat y ++ flat r) (open_behind (flat y) (flat r) (fits_open r f.4 e))
fits_open _ f e = absurd f

end_closed : (k : Kind) → is_end k ≡ true → (may_lack k ≡ false) × (is_if k ≡ false)
unfolding may_lack
end_closed ExprBreak e = absurd (false≢true e)
end_closed ExprReturn e = absurd (false≢true e)
end_closed ExprYield e = absurd (false≢true e)
end_closed ExprRange e = absurd (false≢true e)
end_closed ExprIf e = absurd (false≢true e)
end_closed _ e = (refl, refl)

closed : (k : Kind) → is_end k ≡ true → not (may_lack k || is_if k) ≡ true
closed k e =
    let h = end_closed k e in
    ap (λ b. not (b || is_if k)) h.0 ∙ ap not h.1

takes_closed : (x : Tree) → takes_else x ≡ true → is_closed x ≡ true
unfolding may_lack
takes_closed (Alone ExprMacro y) e = refl
takes_closed (Alone k y) e = closed k e
takes_closed (Front k y x) e = takes_closed x e
takes_closed (Back l k y) e = ap not (end_closed k e).0
takes_closed (Infix l k y r) e = takes_closed r e
takes_closed _ e = absurd (false≢true e)

-- what is held of it is such a one only if it is one itself
macro_kept : (y : Tree) → is_brace_macro (Alone ExprMacro y) ≡ true → is_brace_macro (Alone ExprMacro (kept y)) ≡ true
unfolding held
macro_kept (Node AMacro (Pair p (Pair s (Node Delimited (Second (First g)))))) e = refl
macro_kept _ e = absurd (false≢true e)

takes_kept : (x : Tree) → FitsForms x → takes_else (kept x) ≡ true → takes_else x ≡ true
takes_kept (Alone ExprMacro y) f e = go (is_brace_macro (Alone ExprMacro y)) refl
  where
    go : (b : Bool) → is_brace_macro (Alone ExprMacro y) ≡ b → not b ≡ true
    go true i = absurd (false≢true (ap not (sym (macro_kept y i)) ∙ e))
    go false i = refl
takes_kept (Alone _ y) f e = e
takes_kept (Front k y x) f e = takes_kept x f.3 e
takes_kept (Back l k y) f e = sym (ap takes_else (f.3 (kept l))) ∙ e
takes_kept (Infix l k y r) f e = takes_kept r f.4 e
takes_kept _ f e = absurd f

-- its normal form is such a one
unless_takes : (b : Bool) (x : Tree) → takes_else x ≡ true → takes_else (parens_unless b x) ≡ true
unless_takes true x e = e
unless_takes false x e = refl

back_takes : (p : Position) (ts : List Token) (l : Tree) (k : Kind) (y : Tree) → is_end k ≡ true
    → takes_else (formed p ts (Back l k y)) ≡ true
back_takes p ts l k y e =
    unless_takes (stands_in p k && not (takes_what_follows p k ts))
    (Back (with_left p k (normal y) (formed p (follow (flat (normal y))) l)) k (normal y)) e

fields_take : (p : Position) (ts : List Token) (l : Tree) (cs : List ℕ) (texts : List (List ℕ))
    → takes_else (formed p ts (index_fields (index_field l cs) texts)) ≡ true
fields_take p ts l cs [] =
    back_takes p ts l ExprField
    (Pair (Pair lone_dot (Called the_indices End)) (Second (Called the_value (ALiteral (plain_decimal cs))))) refl
fields_take p ts l cs (ds ∷ texts) = fields_take p ts (index_field l cs) ds texts

dotted_takes : (p : Position) (ts : List Token) (l : Tree) (k : Kind) (y : Tree) → is_end k ≡ true
    → takes_else (formed p ts (dotted l k y)) ≡ true
dotted_takes p ts l ExprField (Pair (Pair d (Called the_indices x)) (Second (Called the_value (ALiteral cs)))) e =
    fields_take p ts (fields_in_front l x) (before_dot cs) (texts_of (behind_dots cs))
dotted_takes p ts l ExprField (Pair (Pair d (Called the_indices x)) y) e =
    back_takes p ts (fields_in_front l x) ExprField (Pair (Pair d (Called the_indices End)) y) e
dotted_takes p ts l ExprField y e = back_takes p ts l ExprField y e
dotted_takes p ts l ExprMethodCall (Pair (Pair d (Called the_indices x)) y) e =
    back_takes p ts (fields_in_front l x) ExprMethodCall (Pair (Pair d (Called the_indices End)) y) e
dotted_takes p ts l ExprMethodCall y e = back_takes p ts l ExprMethodCall y e
dotted_takes p ts l ExprAwait (Pair (Pair d (Called the_indices x)) y) e =
    back_takes p ts (fields_in_front l x) ExprAwait (Pair (Pair d (Called the_indices End)) y) e
dotted_takes p ts l ExprAwait y e = back_takes p ts l ExprAwait y e
dotted_takes p ts l k y e = back_takes p ts l k y e

takes_formed : (x : Tree) (q p : Position) (r ts : List Token) → IsBound q x r → takes_else x ≡ true
    → takes_else (formed p ts (kept x)) ≡ true
unfolding may_lack
takes_formed (Alone ExprMacro y) q p r ts d e = ap not (macro_same y r d.1) ∙ e
takes_formed (Alone k y) q p r ts d e =
    unless_takes (not (takes_what_follows p k ts)) (Alone k (normal (kept y))) e
takes_formed (Front k y x) q p r ts d e =
    let z : Tree = formed (inside p k) ts (kept x) in
    unless_takes (begins_in p k) (Front k (normal (kept y)) (with_right p k (normal (kept y)) z))
    (unless_takes (stays_right p k (normal (kept y)) z) z (takes_formed x (inside q k) (inside p k) r ts d.4 e))
takes_formed (Back l k y) q p r ts d e = dotted_takes p ts (kept l) k (kept y) e
takes_formed (Infix l k y x) q p r ts d e =
    let z : Tree = formed (inside p k) ts (kept x) in
    unless_takes (stays_right p k (normal (kept y)) z) z (takes_formed x (inside q k) (inside p k) r ts d.6 e)
takes_formed _ q p r ts d e = absurd d

-- One that was read before else is such a one, if it ends in no brace.
abbrev IsElse : List Token → Type 0
IsElse ts = (us : List Token) × (ts ≡ Ident (codes "else") ∷ us)

pub else_there : (ts : List Token) → sees (at "else") ts ≡ true → IsElse ts
else_there (Ident cs ∷ ts) e = go (same_text (codes "else") cs) refl e
  where
    go : (b : Bool) → same_text (codes "else") cs ≡ b → seen (cond b (Some ts) None) ≡ true → IsElse (Ident cs ∷ ts)
    go true i e = (ts, ap (λ v. Ident v ∷ ts) (sym ((bytes_eq-Decides (codes "else") cs).0 i)))
    go false i e = cc e
else_there _ e = cc e

abbrev takes_right : Kind → Bool
takes_right k = not (nat_eq (level k) 14 || nat_eq (level k) 16)

abbrev is_sorted : Kind → Bool
is_sorted k = is_end k || (is_macro k || (is_braced k || (may_lack k || takes_right k)))

abbrev are_sorted : List Case → Bool
are_sorted [] = true
are_sorted (form k l ∷ cases) = is_sorted k && are_sorted cases

some_kind : (j k : Kind) → Some j ≡ Some k → is_sorted j ≡ true → is_sorted k ≡ true
some_kind j k e h = subst (λ o. Sorted o) e h
  where
    Sorted : Option Kind → Type 0
    Sorted (Some k) = is_sorted k ≡ true
    Sorted None = Unit {0}

first_sorted : (cases : List Case) (ts : List Token) (k : Kind) → are_sorted cases ≡ true
    → first_form cases ts ≡ Some k → is_sorted k ≡ true
first_sorted [] ts k a e = cc e
first_sorted (form j l ∷ cases) ts k a e =
    let h = both_true (is_sorted j) (are_sorted cases) a in
    go (seen (l ts)) h.0 (λ i. first_sorted cases ts k h.1 i) e
  where
    go : (b : Bool) → is_sorted j ≡ true → (first_form cases ts ≡ Some k → is_sorted k ≡ true)
        → cond b (Some j) (first_form cases ts) ≡ Some k → is_sorted k ≡ true
    go true s f e = some_kind j k e s
    go false s f e = f e

front_sorted : (p : Position) (ts : List Token) (k : Kind) → front p ts ≡ Some k → is_sorted k ≡ true
unfolding front may_lack level
front_sorted p ts k e = first_sorted (fronts p) ts k refl e

back_sorted : (p : Position) (ts : List Token) (k : Kind) → back p ts ≡ Some k → is_sorted k ≡ true
unfolding back may_lack level
back_sorted p ts k e = first_sorted (backs p) ts k refl e

lacking : (p : Position) (k : Kind) (us : List Token) → may_lack k ≡ true
    → has_right p k (Ident (codes "else") ∷ us) ≡ true
unfolding may_lack has_right
lacking Plain ExprBreak us e = refl
lacking InCondition ExprBreak us e = refl
lacking InArm ExprBreak us e = refl
lacking InStatement ExprBreak us e = refl
lacking Plain ExprRange us e = refl
lacking InCondition ExprRange us e = refl
lacking InArm ExprRange us e = refl
lacking InStatement ExprRange us e = refl
lacking p ExprReturn us e = refl
lacking p ExprYield us e = refl
lacking p _ us e = absurd (false≢true e)

right_by : (p : Position) (k : Kind) (ts : List Token) → may_lack k ≡ false → has_right p k ts ≡ takes_right k
unfolding may_lack has_right
right_by p ExprBreak ts e = absurd (false≢true (sym e))
right_by p ExprReturn ts e = absurd (false≢true (sym e))
right_by p ExprYield ts e = absurd (false≢true (sym e))
right_by p ExprRange ts e = absurd (false≢true (sym e))
right_by p _ ts e = refl

last_takes : (p : Position) (k : Kind) (y : Tree) (r : List Token) → is_sorted k ≡ true → Derives y (table k) r
    → has_right p k r ≡ false → IsElse r → ends_in_braces (flat y) ≡ false → (is_end k || is_macro k) ≡ true
last_takes p k y r s d h m n = go (is_end k) (is_macro k) (is_braced k) (may_lack k) refl refl s
  where
    none : may_lack k ≡ false → takes_right k ≡ true → ⊥
    none l t = false≢true (sym h ∙ right_by p k r l ∙ t)

    lack : may_lack k ≡ true → ⊥
    lack l =
        false≢true (sym h ∙ subst (λ us. has_right p k us ≡ true) (sym m.1) (lacking p k m.0 l))

    go : (a b c e : Bool) → is_braced k ≡ c → may_lack k ≡ e
        → (a || (b || (c || (e || takes_right k)))) ≡ true → (a || b) ≡ true
    go true b c e i j s = refl
    go false true c e i j s = refl
    go false false true e i j s = absurd (false≢true (sym n ∙ read_braced true y (table k) r d (braced_entry k i)))
    go false false false true i j s = absurd (lack j)
    go false false false false i j s = absurd (none j s)

not_braced : (us vs : List Token) → ends_in_braces (us ++ vs) ≡ false → ends_in_braces vs ≡ false
not_braced us vs e = go (ends_in_braces vs) refl
  where
    go : (b : Bool) → ends_in_braces vs ≡ b → b ≡ false
    go true i = absurd (false≢true (sym e ∙ brace_behind us vs i))
    go false i = refl

alone_takes : (k : Kind) (y : Tree) → (is_end k || is_macro k) ≡ true
    → (k ≡ ExprMacro → is_brace_macro (Alone ExprMacro y) ≡ false) → takes_else (Alone k y) ≡ true
alone_takes ExprMacro y e h = ap not (h refl)
alone_takes k y e h = go (is_end k) e
  where
    go : (b : Bool) → (b || false) ≡ true → b ≡ true
    go true e = refl
    go false e = e

abbrev are_none : List Case → Bool
are_none [] = true
are_none (form k l ∷ cases) = not (is_macro k) && are_none cases

other_kind : (j k : Kind) → Some j ≡ Some k → is_macro j ≡ false → is_macro k ≡ false
other_kind j k e h = subst (λ o. Other o) e h
  where
    Other : Option Kind → Type 0
    Other (Some k) = is_macro k ≡ false
    Other None = Unit {0}

first_other : (cases : List Case) (ts : List Token) (k : Kind) → are_none cases ≡ true
    → first_form cases ts ≡ Some k → is_macro k ≡ false
first_other [] ts k a e = cc e
first_other (form j l ∷ cases) ts k a e =
    let h = both_true (not (is_macro j)) (are_none cases) a in
    go (seen (l ts)) (is_false (is_macro j) h.0) (λ i. first_other cases ts k h.1 i) e
  where
    go : (b : Bool) → is_macro j ≡ false → (first_form cases ts ≡ Some k → is_macro k ≡ false)
        → cond b (Some j) (first_form cases ts) ≡ Some k → is_macro k ≡ false
    go true s f e = other_kind j k e s
    go false s f e = f e

no_macro : (p : Position) (ts : List Token) (k : Kind) → back p ts ≡ Some k → is_macro k ≡ false
unfolding back
no_macro p ts k e = first_other (backs p) ts k refl e

back_end : (k : Kind) → is_macro k ≡ false → (is_end k || is_macro k) ≡ true → is_end k ≡ true
back_end k e h = go (is_end k) (ap (λ b. is_end k || b) (sym e) ∙ h)
  where
    go : (b : Bool) → (b || false) ≡ true → b ≡ true
    go true e = refl
    go false e = e

takes_read : (x : Tree) (p : Position) (r : List Token) → IsBound p x r → IsElse r → ends_in_braces (flat x) ≡ false
    → takes_else x ≡ true
takes_read (Alone k y) p r d m n =
    alone_takes k y (last_takes p k y r (front_sorted p (flat y ++ r) k d.0) d.1 d.2 m n)
    (λ e. go e (is_brace_macro (Alone ExprMacro y)) refl)
  where
    go : k ≡ ExprMacro → (b : Bool) → is_brace_macro (Alone ExprMacro y) ≡ b → b ≡ false
    go e true i =
        absurd (false≢true (sym n ∙ macro_braced y r (subst (λ j. Derives y (table j) r) e d.1) i))
    go e false i = refl
takes_read (Front k y x) p r d m n = takes_read x (inside p k) r d.4 m (not_braced (flat y) (flat x) n)
takes_read (Back l k y) p r d m n =
    back_end k (no_macro p (flat y ++ r) k d.0)
    (last_takes p k y r (back_sorted p (flat y ++ r) k d.0) d.1 d.2 m (not_braced (flat l) (flat y) n))
takes_read (Infix l k y x) p r d m n =
    takes_read x (inside p k) r d.6 m (not_braced (flat y) (flat x) (not_braced (flat l) (flat y ++ flat x) n))
takes_read _ p r d m n = absurd d

-- So what is printed for a value before else ends in no brace, and else may follow it.
pub else_printed : (x w : Tree) (r : List Token) → IsBound Plain x r → sees (at "else") r ≡ true
    → ends_in_braces (flat x) ≡ false → FitsForms w → kept w ≡ formed Plain [] (kept x)
    → (ends_in_braces (flat w) ≡ false) × (is_closed w ≡ true)
else_printed x w r d e n f k =
    let t = takes_formed x Plain Plain r [] d (takes_read x Plain r d (else_there r e) n) in
    let u = takes_kept w f (ap takes_else k ∙ t) in
    (open_says (flat w) (fits_open w f u), takes_closed w u)
