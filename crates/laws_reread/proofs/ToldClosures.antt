-- A closure that begins with for was read only where its lifetimes were seen, and they are seen in its normal form
-- too; one with a type was read only where -> stands behind its bars.
use Rattle.std.proofs.Common.{◌≡◌, ℕ, List, [], ◌∷◌, ◌++◌, refl, sym, ap, ◌∙◌, subst, append_assoc}
use Rattle.std.specs.Prelude.{Bool, true, false, not, cond, Option, Some, None, codes}
use Rattle.std.proofs.lemmas.Slice.Eq.{bytes_eq-Decides}
use Rattle.std.proofs.lemmas.Bool.{false≢true}
use Rattle.proc_macro2.specs.Token.{Token, Ident, Punct}
use Rattle.rust_leaf.specs.declared.punct.Spacing.{Spacing}
use Rattle.rust_leaf.specs.declared.punct.Spacing.TheVariants.{Alone as Apart, Joint}
use Rattle.syn_grammar.specs.Kind.{Kind, Position, BoundLifetimes, ExprClosure, ExprForLoop, LifetimeParam}
use Rattle.syn_grammar.specs.Kind.{ExprAttributed, ExprBlock, ExprLit, ExprLoop, ExprTypedClosure, ExprWhile}
use Rattle.syn_grammar.specs.Kind.{OuterAttribute, OuterAttributes, ReturnType, WithPlus}
use Rattle.syn_grammar.specs.Words.{is_bool}
use Rattle.rust_leaf.specs.Keywords.{is_reserved}
use Rattle.syn_grammar.specs.Tree.{Tree, ALifetime, AMark, AWord, Again, End, Final, First, More, Nil, Node, Pair}
use Rattle.syn_grammar.specs.Tree.{Second, marks as signs, flat}
use Rattle.syn_grammar.specs.Gram.{Gram, many, ref}
use Rattle.syn_grammar.specs.Look.{Look, a_lifetime, a_literal, behind, seen, sees, ◌then◌, ◌or◌}
use Rattle.syn_grammar.specs.Say.{at, brace, comma, marks, optional}
use Rattle.syn_grammar.specs.Table.{table}
use Rattle.syn_grammar.specs.Derives.{Derives}
use Rattle.syn_grammar.specs.Kept.{held, kept}
use Rattle.syn_grammar.specs.Normal.{normal, passed}
use Rattle.syn_grammar.specs.Forms.{Case, closure_stands, front, fronts, labelled, past_bar, typed_closure_stands}
use Rattle.laws_binding.proofs.Begun.{first_passes}
use Rattle.laws_reread_kinds.specs.Covered.{is_bound, is_plain_part}
use Rattle.laws_reread_kinds.proofs.Choices.{both_same}
use Rattle.laws_reread.proofs.Closures.{bar_behind, calm_entry, is_calm, no_form}
use Rattle.laws_reread.proofs.Quiet.{IsQuiet, quiet}

-- behind < a lifetime or > stands
abbrev begins_lifetimes : Look
begins_lifetimes = a_lifetime or marks ">"

abbrev lifetimes_stand : Look
lifetimes_stand = marks "<" then begins_lifetimes

-- no attributes stand there
hash_joint : (ts : List Token) → sees begins_lifetimes (Punct 35 Joint ∷ ts) ≡ false
hash_joint (Ident cs ∷ ts) = refl
hash_joint _ = refl

hash_first : (c : ℕ) (cs : List ℕ) (i : Spacing) (ts : List Token) → c ≡ 35 → cs ≡ []
    → sees begins_lifetimes (signs c cs i ++ ts) ≡ false
hash_first c cs Apart ts e f =
    ap (λ d. sees begins_lifetimes (signs d cs Apart ++ ts)) e
    ∙ ap (λ ds. sees begins_lifetimes (signs 35 ds Apart ++ ts)) f
hash_first c cs Joint ts e f =
    ap (λ d. sees begins_lifetimes (signs d cs Joint ++ ts)) e
    ∙ ap (λ ds. sees begins_lifetimes (signs 35 ds Joint ++ ts)) f
    ∙ hash_joint ts

attribute_first : (x : Tree) (r ts : List Token) → Derives x (table OuterAttribute) r
    → sees begins_lifetimes (flat x ++ ts) ≡ false
unfolding table
attribute_first (Pair (AMark c cs i) y) r ts d =
    ap (sees begins_lifetimes) (append_assoc (signs c cs i) (flat y) ts)
    ∙ hash_first c cs i (flat y ++ ts) d.0.0 d.0.1
attribute_first (Pair _ y) r ts d = absurd d.0
attribute_first _ r ts d = absurd d

no_attributes : (x : Tree) (r ts : List Token) → Derives x (table OuterAttributes) r
    → sees begins_lifetimes (flat x ++ ts) ≡ true → flat (normal (kept x)) ≡ []
unfolding table
no_attributes End r ts d e = refl
no_attributes (Again (Node k x) y) r ts d e =
    absurd (false≢true (sym (ap (sees begins_lifetimes) (append_assoc (flat x) (flat y) ts)
    ∙ attribute_first x (flat y ++ r) (flat y ++ ts) (subst (λ l. Derives x (table l) (flat y ++ r)) d.1.0 d.1.1))
    ∙ e))
no_attributes (Again _ y) r ts d e = absurd d.1
no_attributes _ r ts d e = absurd d

-- so a parameter begins with its lifetime
param_in : (x : Tree) (r ts us : List Token) → Derives x (table LifetimeParam) r
    → sees begins_lifetimes (flat x ++ ts) ≡ true → sees begins_lifetimes (flat (normal (kept x)) ++ us) ≡ true
unfolding table held passed
param_in (Pair (Node k a) (Pair (ALifetime cs) y)) r ts us d e =
    subst (λ l. sees begins_lifetimes (flat (normal (kept (Pair (Node l a) (Pair (ALifetime cs) y)))) ++ us) ≡ true)
    (sym d.0.0)
    (ap (λ vs. sees begins_lifetimes ((vs ++ (Punct 39 Joint ∷ Ident cs ∷ flat (normal (kept y)))) ++ us))
    (no_attributes a _ ((Punct 39 Joint ∷ Ident cs ∷ flat y) ++ ts)
    (subst (λ l. Derives a (table l) ((Punct 39 Joint ∷ Ident cs ∷ flat y) ++ r)) d.0.0 d.0.1)
    (sym (ap (sees begins_lifetimes) (append_assoc (flat a) (Punct 39 Joint ∷ Ident cs ∷ flat y) ts)) ∙ e)))
param_in (Pair (Node k a) (Pair _ y)) r ts us d e = absurd d.1.0
param_in (Pair (Node k a) _) r ts us d e = absurd d.1
param_in (Pair _ y) r ts us d e = absurd d.0
param_in _ r ts us d e = absurd d

param_told : (x : Tree) (r ts us : List Token) → Derives x (ref LifetimeParam) r
    → sees begins_lifetimes (flat x ++ ts) ≡ true → sees begins_lifetimes (flat (normal (kept x)) ++ us) ≡ true
unfolding held passed
param_told (Node k x) r ts us d e =
    subst (λ l. sees begins_lifetimes (flat (normal (kept (Node l x))) ++ us) ≡ true) (sym d.0)
    (param_in x r ts us (subst (λ l. Derives x (table l) r) d.0 d.1) e)
param_told _ r ts us d e = absurd d

params_told : (x : Tree) (r ts us : List Token) → Derives x (many (sees (marks ">")) comma (ref LifetimeParam)) r
    → sees begins_lifetimes (flat x ++ ts) ≡ true → sees begins_lifetimes us ≡ true
    → sees begins_lifetimes (flat (normal (kept x)) ++ us) ≡ true
params_told End r ts us d e f = f
params_told (Final x) r ts us d e f = param_told x r ts us d.1 e
params_told (More x c i y) r ts us d e f =
    ap (sees begins_lifetimes) (append_assoc (flat (normal (kept x))) (Punct c Apart ∷ flat (normal (kept y))) us)
    ∙ param_told x _ ((Punct c i ∷ flat y) ++ ts) ((Punct c Apart ∷ flat (normal (kept y))) ++ us) d.2
    (sym (ap (sees begins_lifetimes) (append_assoc (flat x) (Punct c i ∷ flat y) ts)) ∙ e)
params_told _ r ts us d e f = absurd d

-- where such a form begins with for, its lifetimes are seen
abbrev is_loop : Kind → Bool
is_loop ExprForLoop = true
is_loop k = false

for_told : (us : List Token) (p : Position) (k : Kind) → is_loop k ≡ false
    → front p (Ident (codes "for") ∷ us) ≡ Some k → sees lifetimes_stand us ≡ true
unfolding front is_bool is_reserved
for_told us p k h e = go (lifetimes_stand us) refl
  where
    no_loop : Some k ≡ Some ExprForLoop → ⊥
    no_loop f = false≢true (sym h ∙ same k f)
      where
        same : (j : Kind) → Some j ≡ Some ExprForLoop → is_loop j ≡ true
        same j f = cc

    go : (o : Option (List Token)) → lifetimes_stand us ≡ o → sees lifetimes_stand us ≡ true
    go (Some vs) i = ap seen i
    go None i =
        let f : front p (Ident (codes "for") ∷ us) ≡ Some ExprForLoop = rw i refl in
        absurd (no_loop (sym e ∙ f))

bound_in : (p : Position) (k : Kind) (x : Tree) (r ts : List Token) → Derives x (table BoundLifetimes) r
    → is_loop k ≡ false → front p (flat x ++ ts) ≡ Some k
    → is_bound (normal (kept (First (Node BoundLifetimes x)))) ≡ true
unfolding table held passed
bound_in p k (Pair (AWord cs) (Pair (AMark c ds i) (Pair x (AMark e es j)))) r ts d h f =
    ap (λ vs. sees (at "for" then lifetimes_stand) (Ident vs ∷ (signs c ds Apart ++ own))) (sym word)
    ∙ ap (λ b. sees lifetimes_stand (signs b ds Apart ++ own)) d.1.0.0
    ∙ ap (λ bs. sees lifetimes_stand (signs 60 bs Apart ++ own)) d.1.0.1
    ∙ ap (λ b. sees begins_lifetimes (flat (normal (kept x)) ++ signs b es Apart)) d.1.1.1.0
    ∙ ap (λ bs. sees begins_lifetimes (flat (normal (kept x)) ++ signs 62 bs Apart)) d.1.1.1.1
    ∙ params_told x _ (signs e es j ++ ts) (Punct 62 Apart ∷ []) d.1.1.0 seen_first refl
  where
    own : List Token
    own = flat (normal (kept x)) ++ signs e es Apart

    inside : List Token
    inside = flat x ++ signs e es j

    word : codes "for" ≡ cs
    word = (bytes_eq-Decides (codes "for") cs).0 d.0

    seen_first : sees begins_lifetimes (flat x ++ (signs e es j ++ ts)) ≡ true
    seen_first =
        sym (ap (sees begins_lifetimes) (append_assoc (flat x) (signs e es j) ts))
        ∙ for_told (Punct 60 i ∷ (inside ++ ts)) p k h
        (sym (ap (λ b. front p ((Ident (codes "for") ∷ (signs b ds i ++ inside)) ++ ts)) d.1.0.0
        ∙ ap (λ bs. front p ((Ident (codes "for") ∷ (signs 60 bs i ++ inside)) ++ ts)) d.1.0.1)
        ∙ ap (λ vs. front p ((Ident vs ∷ (signs c ds i ++ inside)) ++ ts)) word ∙ f)
bound_in p k (Pair (AWord cs) (Pair (AMark c ds i) (Pair x _))) r ts d h f = absurd d.1.1.1
bound_in p k (Pair (AWord cs) (Pair (AMark c ds i) _)) r ts d h f = absurd d.1.1
bound_in p k (Pair (AWord cs) (Pair _ y)) r ts d h f = absurd d.1.0
bound_in p k (Pair (AWord cs) _) r ts d h f = absurd d.1
bound_in p k (Pair _ y) r ts d h f = absurd d.0
bound_in p k _ r ts d h f = absurd d

bound_told : (p : Position) (k : Kind) (o : Tree) (r ts : List Token)
    → Derives o (optional (at "for") (ref BoundLifetimes)) r → is_loop k ≡ false → front p (flat o ++ ts) ≡ Some k
    → is_bound (normal (kept o)) ≡ true
bound_told p k (First (Node j x)) r ts d h f =
    subst (λ l. is_bound (normal (kept (First (Node l x)))) ≡ true) (sym d.1.0)
    (bound_in p k x r ts (subst (λ l. Derives x (table l) r) d.1.0 d.1.1) h f)
bound_told p k (First _) r ts d h f = absurd d.1
bound_told p k (Second Nil) r ts d h f = refl
bound_told p k (Second _) r ts d h f = absurd d.1
bound_told p k _ r ts d h f = absurd d

pub closure_told : (p : Position) (y : Tree) (r : List Token) → front p (flat y ++ r) ≡ Some ExprClosure
    → Derives y (table ExprClosure) r → is_plain_part ExprClosure (normal (kept y)) ≡ true
unfolding table
closure_told p (Pair o y) r f d =
    bound_told p ExprClosure o (flat y ++ r) (flat y ++ r) d.0 refl
    (sym (ap (front p) (append_assoc (flat o) (flat y) r)) ∙ f)
closure_told p _ r f d = absurd d

-- one with a type was read only where it is seen
abbrev is_typed : Kind → Bool
is_typed ExprTypedClosure = true
is_typed k = false

abbrev is_other : Kind → Bool
is_other k = not (is_typed k)

of_typed : (f : Kind → Bool) (k : Kind) → Some k ≡ Some ExprTypedClosure → f k ≡ f ExprTypedClosure
of_typed f k e = cc

not_that : (k : Kind) (b : Bool) (o : Option Kind) → is_typed k ≡ false → cond b (Some k) o ≡ Some ExprTypedClosure
    → o ≡ Some ExprTypedClosure
not_that k true o h e = absurd (false≢true (sym h ∙ of_typed is_typed k e))
not_that k false o h e = e

that : (b : Bool) (o : Option Kind) → (o ≡ Some ExprTypedClosure → ⊥)
    → cond b (Some ExprTypedClosure) o ≡ Some ExprTypedClosure → b ≡ true
that true o h e = refl
that false o h e = absurd (h e)

-- behind the case of a closure with a type
abbrev others : List Case → List Case
others (a ∷ b ∷ c ∷ d ∷ e ∷ f ∷ cases) = cases
others _ = []

typed_seen : (p : Position) (ts : List Token) → front p ts ≡ Some ExprTypedClosure → sees typed_closure_stands ts ≡ true
unfolding front
typed_seen p ts e =
    that (sees typed_closure_stands ts) _
    (λ f. false≢true (first_passes is_other (others (fronts p)) ts ExprTypedClosure refl f))
    (not_that ExprWhile (sees (labelled then at "while") ts) _ refl
    (not_that ExprLoop (sees (labelled then at "loop") ts) _ refl
    (not_that ExprBlock (sees (labelled then brace) ts) _ refl
    (not_that ExprLit (sees a_literal ts) _ refl
    (not_that ExprAttributed (sees (marks "#") ts) _ refl e)))))

-- so behind its bars stands ->
not_no : (b : Bool) (ts : List Token) (l : Look)
    → seen (behind (cond (seen (cond b None (Some ts))) None (Some ts)) l) ≡ true → sees l ts ≡ true
not_no true ts l e = e
not_no false ts l e = absurd (false≢true e)

quiet_front : (x : Tree) (g : Gram) (r us ts : List Token) → Derives x g r → IsQuiet 124 is_calm false g ≡ true
    → past_bar ((flat x ++ us) ++ ts) ≡ past_bar (us ++ ts)
quiet_front x g r us ts d q =
    ap past_bar (append_assoc (flat x) us ts) ∙ quiet 124 is_calm false refl calm_entry no_form x g r d q (us ++ ts)

bars_behind : (y : Tree) (r ts : List Token) → Derives y (table ExprClosure) r
    → behind (past_bar (flat y ++ ts)) past_bar ≡ Some ts
unfolding table
bars_behind (Pair o (Pair c (Pair s (Pair a (Pair m (Pair (AMark b bs i) (Pair x (AMark e es j)))))))) r ts d =
    ap (λ o. behind o past_bar)
    (quiet_front o _ _ _ ts d.0 refl ∙ quiet_front c _ _ _ ts d.1.0 refl ∙ quiet_front s _ _ _ ts d.1.1.0 refl
    ∙ quiet_front a _ _ _ ts d.1.1.1.0 refl ∙ quiet_front m _ _ _ ts d.1.1.1.1.0 refl
    ∙ ap (λ n. past_bar ((signs n bs i ++ (flat x ++ signs e es j)) ++ ts)) d.1.1.1.1.1.0.0
    ∙ ap (λ ns. past_bar ((signs 124 ns i ++ (flat x ++ signs e es j)) ++ ts)) d.1.1.1.1.1.0.1)
    ∙ ap past_bar (append_assoc (flat x) (signs e es j) ts)
    ∙ bar_behind x _ (signs e es j ++ ts) d.1.1.1.1.1.1.0
    ∙ ap (λ n. past_bar (signs n es j ++ ts)) d.1.1.1.1.1.1.1.0
    ∙ ap (λ ns. past_bar (signs 124 ns j ++ ts)) d.1.1.1.1.1.1.1.1
bars_behind (Pair o (Pair c (Pair s (Pair a (Pair m (Pair (AMark b bs i) (Pair x _))))))) r ts d =
    absurd d.1.1.1.1.1.1.1
bars_behind (Pair o (Pair c (Pair s (Pair a (Pair m (Pair (AMark b bs i) _)))))) r ts d = absurd d.1.1.1.1.1.1
bars_behind (Pair o (Pair c (Pair s (Pair a (Pair m (Pair _ z)))))) r ts d = absurd d.1.1.1.1.1.0
bars_behind (Pair o (Pair c (Pair s (Pair a (Pair m _))))) r ts d = absurd d.1.1.1.1.1
bars_behind (Pair o (Pair c (Pair s (Pair a _)))) r ts d = absurd d.1.1.1.1
bars_behind (Pair o (Pair c (Pair s _))) r ts d = absurd d.1.1.1
bars_behind (Pair o (Pair c _)) r ts d = absurd d.1.1
bars_behind (Pair o _) r ts d = absurd d.1
bars_behind _ r ts d = absurd d

arrow_behind : (o : Option (List Token)) (ts : List Token) → behind o past_bar ≡ Some ts
    → seen (behind o (past_bar then marks "->")) ≡ true → sees (marks "->") ts ≡ true
arrow_behind None ts e f = absurd (false≢true f)
arrow_behind (Some us) ts e f = sym (ap (λ o. seen (behind o (marks "->"))) e) ∙ f

-- it begins its type, also in normal form
type_in : (x : Tree) (r : List Token) → Derives x (table (ReturnType WithPlus)) r
    → sees (marks "->") (flat x ++ r) ≡ true
    → sees (marks "->") (flat (normal (kept (Node (ReturnType WithPlus) x)))) ≡ true
unfolding table held passed
type_in (First (Pair (AMark c cs i) x)) r d e =
    ap (λ b. sees (marks "->") (signs b cs Apart ++ flat (normal (kept x)))) d.1.0.0
    ∙ ap (λ bs. sees (marks "->") (signs 45 bs Apart ++ flat (normal (kept x)))) d.1.0.1
type_in (First (Pair _ x)) r d e = absurd d.1.0
type_in (First _) r d e = absurd d.1
type_in (Second Nil) r d e = absurd (false≢true (sym d.0 ∙ e))
type_in (Second _) r d e = absurd d.1
type_in _ r d e = absurd d

type_told : (x : Tree) (r : List Token) → Derives x (ref (ReturnType WithPlus)) r
    → sees (marks "->") (flat x ++ r) ≡ true → sees (marks "->") (flat (normal (kept x))) ≡ true
type_told (Node k x) r d e =
    subst (λ l. sees (marks "->") (flat (normal (kept (Node l x)))) ≡ true) (sym d.0)
    (type_in x r (subst (λ l. Derives x (table l) r) d.0 d.1) e)
type_told _ r d e = absurd d

pub typed_closure_told : (p : Position) (y : Tree) (r : List Token) → front p (flat y ++ r) ≡ Some ExprTypedClosure
    → Derives y (table ExprTypedClosure) r → is_plain_part ExprTypedClosure (normal (kept y)) ≡ true
unfolding table
typed_closure_told p (Pair (Pair o y) (Pair t v)) r f d =
    both_same (is_bound (normal (kept o))) (sees (marks "->") (flat (normal (kept t)))) true true
    (bound_told p ExprTypedClosure o _ (flat y ++ rest) d.0.0 refl
    (sym (ap (front p) (append_assoc (flat o) (flat y) rest)) ∙ stands))
    (type_told t (flat v ++ r) d.1.0
    (sym (ap (sees (marks "->")) (append_assoc (flat t) (flat v) r))
    ∙ arrow_behind (past_bar (flat (Pair o y) ++ rest)) rest (bars_behind (Pair o y) _ rest d.0)
    (not_no (sees closure_stands (flat (Pair o y) ++ rest)) (flat (Pair o y) ++ rest)
    (past_bar then past_bar then marks "->") (typed_seen p (flat (Pair o y) ++ rest) stands))))
  where
    rest : List Token
    rest = (flat t ++ flat v) ++ r

    stands : front p (flat (Pair o y) ++ rest) ≡ Some ExprTypedClosure
    stands = sym (ap (front p) (append_assoc (flat (Pair o y)) (flat t ++ flat v) r)) ∙ f
typed_closure_told p (Pair (Pair o y) _) r f d = absurd d.1
typed_closure_told p (Pair _ z) r f d = absurd d.0
typed_closure_told p _ r f d = absurd d
