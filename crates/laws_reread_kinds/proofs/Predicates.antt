-- The step and the law of a where clause's predicate: a `for` before its type is the predicate's own.
use Rattle.std.proofs.Common.{◌≡◌, ℕ, List, [], ◌∷◌, ◌++◌, refl, sym, ap, ◌∙◌, subst, append_assoc, ⊎_elim, inl, inr}
use Rattle.std.specs.Prelude.{Bool, true, false, ◌⊎◌, ◌||◌, not, codes}
use Rattle.proc_macro2.specs.Token.{Token}
use Rattle.proc_macro2.specs.declared.delimiter.Delimiter.TheVariants.{Parenthesis, Bracket}
use Rattle.syn_grammar.specs.Kind.{Kind, Position, Plain, AType, AtType, BoundLifetimes, Bounds, FnPtrType}
use Rattle.syn_grammar.specs.Kind.{Lifetimes, WherePredicate, WithPlus}
use Rattle.rust_leaf.specs.Keywords.{same_text}
use Rattle.syn_grammar.specs.Tree.{Tree, Nil, Pair, First, Second, Node, Back, flat}
use Rattle.syn_grammar.specs.Part.{choice}
use Rattle.syn_grammar.specs.Gram.{Gram, alt, judged, lifetime, ref}
use Rattle.syn_grammar.specs.Look.{sees, ◌or◌, a_lifetime}
use Rattle.syn_grammar.specs.Say.{◌▸◌, at, marks, optional, sign}
use Rattle.syn_grammar.specs.Paths.{arguments_stand, parentheses_stand}
use Rattle.syn_grammar.specs.Types.{bound_stands, type_entry}
use Rattle.syn_grammar.specs.Ranks.{skips}
use Rattle.syn_grammar.specs.Table.{table}
use Rattle.syn_grammar.specs.Derives.{Derives}
use Rattle.syn_grammar.specs.Kept.{forget, held, is_there, kept}
use Rattle.syn_grammar.specs.Tidy.{tidy}
use Rattle.syn_grammar.specs.Normal.{passed, place_of, normal_in}
use Rattle.laws_reread_kinds.proofs.Choices.{either_or, either_same, first_lacks, other_word}
use Rattle.laws_reread_kinds.specs.After.{behind}
use Rattle.laws_reread_kinds.specs.Covered.{front, has_step, is_taken}
use Rattle.laws_reread_kinds.specs.Sees.{Lacks, LacksAll}
use Rattle.laws_reread_kinds.proofs.Classes.{Class, TheWord, among_left, among_right}
use Rattle.laws_reread_kinds.proofs.Starts.{starts}
use Rattle.laws_reread_kinds.proofs.Fits.{Fits, IsMeant, has_own_for, is_for, is_long}
use Rattle.laws_reread_kinds.proofs.Readies.{Ready, Step}
use Rattle.laws_reread_kinds.proofs.Fine.{Fine, Edge, At, AtOrNone, Without, fine_alt, fine_seq}
use Rattle.laws_reread_kinds.proofs.Parts.{Found, at_back, at_front, found_before, found_lifetime, found_mark}
use Rattle.laws_reread_kinds.proofs.Parts.{found_ref}
use Rattle.laws_reread_kinds.proofs.Parts.{found_seq, maybe_ref, meant_step, told_at, weaken}
use Rattle.laws_reread_kinds.proofs.Printed.{KindLaw, IsPlaced, Printed, simple_law}
use Rattle.laws_reread_kinds.proofs.KindLaws.{chosen_fits, chosen_read, there_normal}
use Rattle.laws_reread_kinds.proofs.Seconds.{group_is_none, mark_is_none}

abbrev pub is_text : List ℕ → Bool
is_text cs = same_text (codes "for") cs

pointer_in : (x : Tree) (s : List Token) → Derives x (table FnPtrType) s → is_there (front x) ≡ false
    → Lacks (at "for") (flat x ++ s)
unfolding table
pointer_in (Pair (Second Nil) y) s d e = d.0.0
pointer_in (Pair (Second _) y) s d e = absurd d.0.1
pointer_in (Pair (First o) y) s d e = cc
pointer_in (Pair _ y) s d e = absurd d.0
pointer_in _ s d e = absurd d

pointer_lacks : (k : Kind) (x : Tree) (s : List Token) → k ≡ FnPtrType → Derives x (table k) s
    → is_long (Node k x) ≡ false → Lacks (at "for") (flat x ++ s)
pointer_lacks k x s e d h =
    pointer_in x s (subst (λ j. Derives x (table j) s) e d) (subst (λ j. is_long (Node j x) ≡ false) e h)

-- a type that doesn't begin with for, by its first token
entry_lacks : (x : Tree) (s : List Token) → Derives x (type_entry WithPlus) s → is_long (choice x) ≡ false
    → Lacks (at "for") (flat x ++ s)
entry_lacks (First x) s d e = group_is_none is_text Parenthesis (flat x ++ s) d.0
entry_lacks (Second (First x)) s d e = mark_is_none is_text 33 [] (flat x ++ s) d.1.0
entry_lacks (Second (Second (First x))) s d e = mark_is_none is_text 38 [] (flat x ++ s) d.1.1.0
entry_lacks (Second (Second (Second (First x)))) s d e = mark_is_none is_text 42 [] (flat x ++ s) d.1.1.1.0
entry_lacks (Second (Second (Second (Second (First x))))) s d e =
    group_is_none is_text Bracket (flat x ++ s) d.1.1.1.1.0
entry_lacks (Second (Second (Second (Second (Second (First x)))))) s d e =
    other_word (codes "for") (codes "_") (flat x ++ s) refl d.1.1.1.1.1.0
entry_lacks (Second (Second (Second (Second (Second (Second (First x))))))) s d e =
    other_word (codes "for") (codes "dyn") (flat x ++ s) refl d.1.1.1.1.1.1.0
entry_lacks (Second (Second (Second (Second (Second (Second (Second (First x)))))))) s d e =
    other_word (codes "for") (codes "impl") (flat x ++ s) refl d.1.1.1.1.1.1.1.0
entry_lacks (Second (Second (Second (Second (Second (Second (Second (Second (First (Node k x)))))))))) s d e =
    pointer_lacks k x s d.1.1.1.1.1.1.1.1.1.0 d.1.1.1.1.1.1.1.1.1.1 e
entry_lacks (Second (Second (Second (Second (Second (Second (Second (Second (First _))))))))) s d e =
    absurd d.1.1.1.1.1.1.1.1.1
entry_lacks (Second (Second (Second (Second (Second (Second (Second (Second (Second x))))))))) s d e =
    first_lacks ((at "for") (flat x ++ s)) ((at "unsafe" or at "extern" or at "fn") (flat x ++ s)) d.1.1.1.1.1.1.1.1.0
entry_lacks (Second (Second (Second (Second (Second (Second (Second (Second _)))))))) s d e = absurd d.1.1.1.1.1.1.1.1
entry_lacks (Second (Second (Second (Second (Second (Second (Second _))))))) s d e = absurd d.1.1.1.1.1.1.1
entry_lacks (Second (Second (Second (Second (Second (Second _)))))) s d e = absurd d.1.1.1.1.1.1
entry_lacks (Second (Second (Second (Second (Second _))))) s d e = absurd d.1.1.1.1.1
entry_lacks (Second (Second (Second (Second _)))) s d e = absurd d.1.1.1.1
entry_lacks (Second (Second (Second _))) s d e = absurd d.1.1.1
entry_lacks (Second (Second _)) s d e = absurd d.1.1
entry_lacks (Second _) s d e = absurd d.1
entry_lacks _ s d e = absurd d

type_lacks : (x : Tree) (s : List Token) → Derives x (ref (AType WithPlus)) s → is_for x ≡ false
    → Lacks (at "for") (flat x ++ s)
unfolding table
type_lacks (Node k x) s d e = entry_lacks x s (subst (λ j. Derives x (table j) s) d.0 d.1) e
type_lacks _ s d e = absurd d

-- the type, and its bounds
abbrev pub bounded : Gram
bounded = ref (AType WithPlus) ▸ sign ":" ▸ ref Bounds

found_bounded : Found bounded (behind WherePredicate) (starts (AType WithPlus))
unfolding skips
found_bounded = (weaken
    (a_lifetime ∷ (marks "+") ∷ bound_stands ∷ (marks "::") ∷ (arguments_stand AtType) ∷ (parentheses_stand AtType) ∷
    (marks "->") ∷ []) (found_seq (found_ref (AType WithPlus) refl)
    (found_before found_mark (maybe_ref Bounds refl) tt (λ s a. tt)) (
      (λ us. refl, tt),
      (
        (λ us. refl, tt),
        ((λ us. refl, tt), ((λ us. refl, tt), ((λ us. refl, tt), ((λ us. refl, tt), tt)))),
      ),
    ))
    (λ s a. (a.1.1.0, (a.1.0, (a.1.1.1.0, (a.1.1.1.1.0, (a.1.1.1.1.1.0, (a.1.1.1.1.1.1.0, tt))))))))

found_outlived : Found (lifetime ▸ sign ":" ▸ ref Lifetimes) (behind WherePredicate) (starts Lifetimes)
unfolding skips
found_outlived = (weaken
    (a_lifetime ∷ (marks "+") ∷ bound_stands ∷ (marks "::") ∷ (arguments_stand AtType) ∷ (parentheses_stand AtType) ∷
    (marks "->") ∷ []) (found_seq found_lifetime (found_before found_mark (maybe_ref Lifetimes refl) tt (λ s a. tt))
    tt) (λ s a. (a.0, (a.1.0, tt))))

abbrev pub BoundedEdge : Edge
BoundedEdge y s = At (starts (AType WithPlus)) y s × (is_for (front y) ≡ false → Lacks (at "for") (flat y ++ s))

fine_bounded : Fine bounded (Without (behind WherePredicate)) BoundedEdge
fine_bounded = record { by = go }
  where
    go : (x : Tree) (s : List Token) → Fits x bounded → Ready x → LacksAll (behind WherePredicate) s
        → Derives x bounded s × BoundedEdge x s
    go (Pair t e) s f w a =
        let (d, i) = found_bounded.fine.by (Pair t e) s f w a in (
          d,
          (
            i,
            λ h. subst (Lacks (at "for")) (sym (append_assoc (flat t) (flat e) s)) (type_lacks t (flat e ++ s) d.0 h),
          ),
        )
    go _ s f w a = absurd f

-- a for, or none before what begins with none
abbrev pub ForEdge : Edge
ForEdge o us = (is_there o ≡ true) ⊎ Lacks (at "for") us

abbrev pub for_class : List Class
for_class = TheWord (codes "for") ∷ []

fine_for : Fine (optional (at "for") (ref BoundLifetimes)) ForEdge (AtOrNone for_class)
unfolding skips
fine_for = record { by = go }
  where
    go : (x : Tree) (s : List Token) → Fits x (optional (at "for") (ref BoundLifetimes)) → Ready x → ForEdge x s
        → Derives x (optional (at "for") (ref BoundLifetimes)) s × AtOrNone for_class x s
    go (First x) s f w a =
        let (d, i) = (found_ref BoundLifetimes refl).fine.by x s f.1 w tt in
        ((told_at (at "for") true for_class (flat x ++ s) (λ us. refl, tt) i, d), inr i)
    go (Second Nil) s f w a = ((⊎_elim (λ e. cc) (λ e. e) a, tt), inl refl)
    go (Second _) s f w a = absurd f.1
    go _ s f w a = absurd f

abbrev pub classes : List Class
classes = for_class ++ starts (AType WithPlus)

abbrev pub is_own : Tree → Bool
is_own (Pair o y) = is_there o || not (is_for (front y))
is_own _ = true

abbrev pub TypedEdge : Edge
TypedEdge x s = LacksAll (behind WherePredicate) s × (is_own x ≡ true)

fine_typed : Fine (optional (at "for") (ref BoundLifetimes) ▸ bounded) TypedEdge (At classes)
fine_typed =
    fine_seq TypedEdge (At classes) fine_for fine_bounded (λ x y s c. c.0)
    (λ x y s i c. ⊎_elim (λ e. inl e) (λ e. inr (i.1 e)) (either_or (is_there x) (is_for (front y)) c.1))
    (λ x y s j i c. ⊎_elim
    (λ e. at_back classes x y s e (among_right for_class (starts (AType WithPlus)) (flat y ++ s) i.0))
    (λ k. at_front classes x y s (among_left for_class (starts (AType WithPlus)) (flat x ++ (flat y ++ s)) k)) j)

abbrev pub PredicateEdge : Edge
PredicateEdge x s = LacksAll (behind WherePredicate) s × IsMeant WherePredicate x

own_typed : (x : Tree) (s : List Token) → PredicateEdge (Second x) s → TypedEdge x s
own_typed (Pair o y) s c = c
own_typed _ s c = (c.0, refl)

pub step_where_predicate : Step WherePredicate
unfolding table skips
step_where_predicate =
    meant_step WherePredicate refl refl
    (fine_alt PredicateEdge (At (starts WherePredicate)) found_outlived.fine fine_typed (λ x s c. c.0) own_typed
    (λ x s e i c. (
      told_at a_lifetime true (starts Lifetimes) (flat x ++ s) (λ cs us. refl, tt) i,
      among_left (starts Lifetimes) classes (flat x ++ s) i,
    ))
    (λ x s e i c. (
      told_at a_lifetime false classes (flat x ++ s) (search) i,
      among_right (starts Lifetimes) classes (flat x ++ s) i,
    )))

-- whether a for begins a type is the same of what was read and of what is printed
node_fits : (k : Kind) (x : Tree) → Fits x (table k) → is_long (kept (Node k x)) ≡ is_long (Node k x)
unfolding held table
node_fits FnPtrType (Pair o y) f = chosen_fits o _ f.0
node_fits FnPtrType _ f = absurd f
node_fits _ x f = refl

long_fits : (x : Tree) (g : Gram) → Fits x g → is_long (choice (kept x)) ≡ is_long (choice x)
long_fits (First x) (alt t a b) f = long_fits x a f.1
long_fits (First x) (judged v g) f = long_fits x g f.1
long_fits (Second x) (alt t a b) f = long_fits x b f.1
long_fits (First x) _ f = absurd f
long_fits (Second x) _ f = absurd f
long_fits (Node k x) (ref l) f = node_fits k x f.3
long_fits (Node k x) _ f = absurd f
long_fits (Back l k y) _ f = absurd f
long_fits _ _ f = refl

node_read : (k : Kind) (x : Tree) (r : List Token) → Derives x (table k) r
    → is_long (kept (Node k x)) ≡ is_long (Node k x)
unfolding held table
node_read FnPtrType (Pair o y) r d = chosen_read o _ (flat y ++ r) d.0
node_read FnPtrType _ r d = absurd d
node_read _ x r d = refl

long_read : (x : Tree) (g : Gram) (r : List Token) → Derives x g r → is_long (choice (kept x)) ≡ is_long (choice x)
long_read (First x) (alt t a b) r d = long_read x a r d.1
long_read (First x) (judged v g) r d = long_read x g r d.1
long_read (Second x) (alt t a b) r d = long_read x b r d.1
long_read (First x) _ r d = absurd d
long_read (Second x) _ r d = absurd d
long_read (Node k x) (ref l) r d = node_read k x r d.1
long_read (Node k x) _ r d = absurd d
long_read (Back l k y) _ r d = absurd d
long_read _ _ r d = refl

long_normal : (q : Position) (x : Tree) → is_long (choice (normal_in q x)) ≡ is_long (choice x)
unfolding passed
long_normal q (First x) = long_normal q x
long_normal q (Second x) = long_normal q x
long_normal q (Node FnPtrType (Pair o y)) = there_normal Plain o
long_normal q _ = refl

for_fits : (w : Tree) → Fits w (ref (AType WithPlus)) → is_for (kept w) ≡ is_for w
for_fits (Node k x) f = ap (λ j. is_long (choice (forget j (kept x)))) f.0 ∙ long_fits x (table k) f.3
for_fits _ f = absurd f

for_read : (x : Tree) (r : List Token) → Derives x (ref (AType WithPlus)) r
    → is_for (normal_in Plain (kept x)) ≡ is_for x
unfolding held passed
for_read (Node k x) r d =
    ap (λ j. is_long (choice (tidy (held j) (normal_in (passed (held j) Plain) (forget j (kept x)))))) d.0
    ∙ long_normal Plain (kept x) ∙ long_read x (table k) r d.1
for_read _ r d = absurd d

own_fits : (w : Tree) → Fits w (table WherePredicate) → has_own_for (kept w) ≡ has_own_for w
unfolding table
own_fits (First x) f = refl
own_fits (Second (Pair o (Pair t e))) f =
    either_same (is_there (kept o)) (is_for (kept t)) (is_there o) (is_for t) (chosen_fits o _ f.1.0)
    (for_fits t f.1.1.0)
own_fits (Second (Pair o _)) f = absurd f.1.1
own_fits (Second _) f = absurd f.1
own_fits _ f = absurd f

own_read : (x : Tree) (r : List Token) → Derives x (table WherePredicate) r
    → has_own_for (normal_in Plain (kept x)) ≡ has_own_for x
unfolding table
own_read (First x) r d = refl
own_read (Second (Pair o (Pair t e))) r d =
    either_same (is_there (normal_in Plain (kept o))) (is_for (normal_in Plain (kept t))) (is_there o) (is_for t)
    (there_normal Plain (kept o) ∙ chosen_read o _ (flat (Pair t e) ++ r) d.1.0) (for_read t (flat e ++ r) d.1.1.0)
own_read (Second (Pair o _)) r d = absurd d.1.1
own_read (Second _) r d = absurd d.1
own_read _ r d = absurd d

-- and where none was seen none begins it
long_seen : (x : Tree) (g : Gram) (r : List Token) → Derives x g r → is_long (choice x) ≡ true
    → sees (at "for") (flat x ++ r) ≡ true
unfolding table
long_seen (First x) (alt t a b) r d e = long_seen x a r d.1 e
long_seen (First x) (judged v g) r d e = long_seen x g r d.1 e
long_seen (Second x) (alt t a b) r d e = long_seen x b r d.1 e
long_seen (First x) _ r d e = absurd d
long_seen (Second x) _ r d e = absurd d
long_seen (Node FnPtrType (Pair (First o) y)) (ref k) r d e =
    subst (λ us. sees (at "for") us ≡ true) (sym (append_assoc (flat o) (flat y) r)) d.1.0.0
long_seen (Node FnPtrType (Pair (First o) y)) _ r d e = absurd d
long_seen (Node FnPtrType (First x)) (ref k) r d e = absurd d.1
long_seen (Node FnPtrType (First x)) _ r d e = absurd d
long_seen _ _ r d e = cc

for_seen : (x : Tree) (r : List Token) → Derives x (ref (AType WithPlus)) r → is_for x ≡ true
    → sees (at "for") (flat x ++ r) ≡ true
for_seen (Node k x) r d e = long_seen x (table k) r d.1 e
for_seen _ r d e = absurd d

for_unseen : (o : Tree) (us : List Token) → Derives (Second o) (optional (at "for") (ref BoundLifetimes)) us
    → Lacks (at "for") us
for_unseen Nil us d = d.0
for_unseen _ us d = absurd d.1

own_meant : (x : Tree) (r : List Token) → Derives x (table WherePredicate) r → has_own_for x ≡ true
unfolding table
own_meant (Second (Pair (Second o) (Pair t e))) r d = go (is_for t) refl
  where
    go : (b : Bool) → is_for t ≡ b → not b ≡ true
    go false h = refl
    go true h =
        let f : true ≡ false =
        sym (for_seen t (flat e ++ r) d.1.1.0 h)
        ∙ ap (sees (at "for")) (sym (append_assoc (flat t) (flat e) r))
        ∙ for_unseen o (flat (Pair t e) ++ r) d.1.0 in
        cc f
own_meant (Second (Pair (Second o) _)) r d = absurd d.1.1
own_meant (Second (Pair (First o) y)) r d = refl
own_meant (Second (Pair _ y)) r d = absurd d.1.0
own_meant (Second _) r d = absurd d.1
own_meant (First x) r d = refl
own_meant _ r d = absurd d

pub law_where_predicate : KindLaw WherePredicate
unfolding has_step held passed place_of table
law_where_predicate = record { entry = λ q l. simple_law Plain (table WherePredicate) refl; node = go }
  where
    go : (q : Position) → IsPlaced q WherePredicate → (x : Tree) (r : List Token) → is_taken WherePredicate x ≡ true
        → Derives x (table WherePredicate) r
        → Printed (table WherePredicate) (normal_in (passed WherePredicate q) (kept x))
        → Printed (ref WherePredicate) (normal_in q (Node (held WherePredicate) (kept x)))
    go q l x r m d i =
        let b : has_own_for i.tree ≡ true =
        sym (own_fits i.tree i.fits) ∙ ap has_own_for i.kept_is ∙ own_read x r d ∙ own_meant x r d in
        record {
          tree = Node WherePredicate i.tree;
          fits = (refl, refl, refl, i.fits, b);
          kept_is = ap (Node WherePredicate) i.kept_is;
        }
