-- The step and the law of an impl: its type before for is a path, and begins no generics.
use Rattle.std.proofs.Common.{◌≡◌, ℕ, List, [], ◌∷◌, ◌++◌, refl, sym, ap, ◌∙◌, subst, append_assoc, inl, inr}
use Rattle.std.specs.Prelude.{Bool, true, false, ◌&&◌, ◌||◌, not, codes, cond, Option, Some, None}
use Rattle.proc_macro2.specs.Token.{Token, Punct}
use Rattle.proc_macro2.specs.declared.delimiter.Delimiter.TheVariants.{Brace, Parenthesis}
use Rattle.rust_leaf.specs.declared.punct.Spacing.{Spacing}
use Rattle.syn_grammar.specs.Kind.{AnImpl, AType, ImplGenerics, ImplItems, InnerAttributes, NeverType, Plain}
use Rattle.syn_grammar.specs.Kind.{Position, Where, WithPlus, WithoutPlus}
use Rattle.syn_grammar.specs.Name.{Part, same_part, the_first, the_generics, the_polarity}
use Rattle.syn_grammar.specs.Name.{the_self, the_where}
use Rattle.syn_grammar.specs.Words.{is_name, is_path_keyword}
use Rattle.syn_grammar.specs.Tree.{Tree, AMark, Nil, Pair, First, Second, Verbatim, Group, Called, Node, Back}
use Rattle.syn_grammar.specs.Tree.{marks as signs, flat}
use Rattle.syn_grammar.specs.Part.{changed, choice, found, has, is_some, or_else, or_nil, the}
use Rattle.syn_grammar.specs.Gram.{AsRaw, Gram, alt, called, group, judged, ref, seq}
use Rattle.syn_grammar.specs.Look.{Look, behind as past, no, opens, seen, sees, the_end, ◌then◌}
use Rattle.syn_grammar.specs.Say.{at, brace, in_braces, keyword, marks, optional, sign, ◌∶◌, ◌▸◌}
use Rattle.syn_grammar.specs.Types.{kept_if, type_entry}
use Rattle.syn_grammar.specs.Generics.{angled_params, impl_generics_stand}
use Rattle.syn_grammar.specs.Items.{impl_form, is_impl}
use Rattle.syn_grammar.specs.Ranks.{skips}
use Rattle.syn_grammar.specs.Table.{table}
use Rattle.syn_grammar.specs.Derives.{Derives}
use Rattle.syn_grammar.specs.Kept.{held, is_there, kept}
use Rattle.syn_grammar.specs.Tidy.{begins_bracketed, is_absent, is_bare_generics, keeps_generics, tidy_impl}
use Rattle.syn_grammar.specs.Tidy.{without_generics}
use Rattle.syn_grammar.specs.Verdicts.{is_path_type}
use Rattle.syn_grammar.specs.Normal.{passed, place_of, normal_in}
use Rattle.laws_reread_kinds.specs.After.{After, behind, is_any_path, is_generic}
use Rattle.laws_reread_kinds.specs.Covered.{has_own_trait, has_step}
use Rattle.laws_reread_kinds.specs.Sees.{Lacks, LacksAll}
use Rattle.laws_reread_kinds.proofs.CalledParts.{lacks_part, no_part, past_read}
use Rattle.laws_reread_kinds.proofs.Choices.{both_true, is_false, or_same}
use Rattle.laws_reread_kinds.proofs.Classes.{Class, IsAmong, Opening, TheWord, ◌&◌}
use Rattle.laws_reread_kinds.proofs.Starts.{starts}
use Rattle.laws_reread_kinds.proofs.Keywords.{reserved_where}
use Rattle.laws_reread_kinds.proofs.Fits.{Fits, IsMeant, IsOwn, IsOwnImpl, back, behind_impl, is_never, is_never_type}
use Rattle.laws_reread_kinds.proofs.Readies.{Ready, Step}
use Rattle.laws_reread_kinds.proofs.Fine.{Any, At, Edge, Fine, fine_judged, fine_ref, fine_seq, fine_weaker}
use Rattle.laws_reread_kinds.proofs.Parts.{Found, Unseen, at_front, found_called, found_group, found_optional}
use Rattle.laws_reread_kinds.proofs.Parts.{found_ref}
use Rattle.laws_reread_kinds.proofs.Parts.{found_seq, found_text, maybe_ahead, maybe_both, maybe_called, maybe_ended}
use Rattle.laws_reread_kinds.proofs.Parts.{maybe_ref, maybe_seq, meant_step, told_at, unseen_all, weaken_maybe}
use Rattle.laws_reread_kinds.proofs.Printed.{IsPlaced, KindLaw, Printed, VerdictLaw, kept_entry, simple_law}
use Rattle.laws_reread_kinds.proofs.Seconds.{front_seen, group_is_none, mark_other}
use Rattle.laws_reread_kinds.proofs.Verdicts.{has_normal, some_called, some_either}
use Rattle.laws_reread_kinds.proofs.Elements.{has_fits, has_read}
use Rattle.laws_reread_kinds.proofs.Tidied.{as_it_is, changed_printed, chosen, removed_printed}
use Rattle.laws_reread_kinds.proofs.KindLaws.{chosen_fits}
use Rattle.laws_reread_kinds.proofs.Aliases.{a_where, absent_fits, absent_flat, absent_read}
use Rattle.laws_reread_kinds.proofs.PathTypes.{path_fits, path_is}
use Rattle.laws_reread_kinds.proofs.Turbofish.{changed_there}
use Rattle.laws_reread_kinds.proofs.ImplParams.{generic_fits}
use Rattle.laws_reread_kinds.proofs.Bracketed.{angle_none, bracketed_read, never_read, path_open, type_generics}

-- what stands behind the type
abbrev pub a_for : Gram
a_for = optional (at "for") (keyword "for" ▸ the_self ∶ ref (AType WithPlus))

abbrev pub ended : Gram
ended = a_where ▸ in_braces (ref InnerAttributes ▸ ref ImplItems)

abbrev pub end_classes : List Class
end_classes = TheWord (codes "where") ∷ Opening Brace ∷ []

abbrev pub for_class : List Class
for_class = TheWord (codes "for") ∷ []

found_end : Found ended [] end_classes
unfolding skips
found_end = (maybe_seq (maybe_called (maybe_ref Where refl)) (found_group (maybe_ended (maybe_both
    (maybe_ref InnerAttributes refl) (weaken_maybe ((no the_end) ∷ (marks "#" then marks "!") ∷ [])
    (maybe_ref ImplItems refl) (λ s a. (a.0, tt))) ((λ us h. h.2, (search)), tt) (λ s a. (a.1.0, tt)))
    (refl, (refl, tt)))) (search))

found_for : Found (keyword "for" ▸ the_self ∶ ref (AType WithPlus)) (behind (AType WithPlus)) for_class
unfolding skips
found_for = found_seq (found_text "for") (found_called (found_ref (AType WithPlus) refl)) tt

found_tail : Found (a_for ▸ ended) [] (for_class ++ end_classes)
unfolding skips is_name is_path_keyword
found_tail = (maybe_seq (found_optional (at "for") found_for (λ us. refl, tt)) found_end (
  (search),
  (
    (search),
    ((search), ((search), ((search), (((λ us. simp (reserved_where) refl) & (λ us. refl) & tt), ((search), tt))))),
  ),
))

-- what may stand behind the type: for behind a path alone
end_unseen : Unseen (behind (AType WithPlus)) end_classes
unfolding is_name is_path_keyword
end_unseen = (
  (search),
  (
    (search),
    (
      (search),
      (
        (search),
        (
          ((λ us. simp (reserved_where) refl) & (λ us. refl) & tt),
          ((search), tt),
        ),
      ),
    ),
  ),
)

for_unseen : Unseen (behind (AType WithoutPlus)) for_class
for_unseen = ((λ us. refl, tt), ((λ us. refl, tt), ((λ us. refl, tt), ((λ us. refl, tt), tt))))

after_type : (t f y : Tree) (s : List Token) → Fits (Pair f y) (a_for ▸ ended) → Ready (Pair f y)
    → (not (is_there f) || is_any_path t) ≡ true → After (AType WithPlus) t (flat (Pair f y) ++ s)
after_type t (First a) y s d w e =
    let (u, i) = found_end.fine.by y s d.1 w.1 tt in
    let (v, j) = found_for.fine.by a (flat y ++ s) d.0.1 w.0
    (unseen_all (behind (AType WithPlus)) end_classes (flat y ++ s) end_unseen i) in
    inr (
      e,
      unseen_all (behind (AType WithoutPlus)) for_class (flat (Pair (First a) y) ++ s) for_unseen
          (at_front for_class a y s j),
    )
after_type t (Second Nil) y s d w e =
    let (u, i) = found_end.fine.by y s d.1 w.1 tt in
    inl (unseen_all (behind (AType WithPlus)) end_classes (flat y ++ s) end_unseen i)
after_type t (Second _) y s d w e = absurd d.0.1
after_type t _ y s d w e = absurd d.0

-- its !
abbrev pub bang_stands : Look
bang_stands = marks "!" then no brace

abbrev pub polarity : Gram
polarity = optional bang_stands (the_polarity ∶ sign "!")

bang_at : (c : ℕ) (cs : List ℕ) (i : Spacing) (us : List Token) (b : Bool) → c ≡ 33 → cs ≡ [] → sees brace us ≡ b
    → sees bang_stands (signs c cs i ++ us) ≡ not b
bang_at c cs i us b e f h =
    subst (λ d. sees bang_stands (signs d cs i ++ us) ≡ not b) (sym e)
    (subst (λ ds. sees bang_stands (signs 33 ds i ++ us) ≡ not b) (sym f)
    (ap (λ v. seen (cond v None (Some us))) h ∙ denied b))
  where
    denied : (b : Bool) → seen (cond b None (Some us)) ≡ not b
    denied true = refl
    denied false = refl

bang_seen : (x : Tree) (us : List Token) → Fits x (the_polarity ∶ sign "!") → Lacks brace us
    → sees bang_stands (flat x ++ us) ≡ true
bang_seen (Called n (AMark c cs i)) us f e = bang_at c cs i us false f.1.0 f.1.1 e
bang_seen (Called n _) us f e = absurd f.1
bang_seen _ us f e = absurd f

no_bang : (ts : List Token) → Lacks (marks "!") ts → Lacks bang_stands ts
no_bang ts e = go ((marks "!") ts) e
  where
    go : (o : Option (List Token)) → seen o ≡ false → seen (past o (no brace)) ≡ false
    go None e = refl
    go (Some us) e = cc

group_bang : (ts : List Token) → sees (opens Parenthesis) ts ≡ true → Lacks bang_stands ts
group_bang (Punct c i ∷ ts) h = cc
group_bang _ h = refl

never_in : (x : Tree) (us : List Token) → Derives x (table NeverType) us → sees brace us ≡ true
    → Lacks bang_stands (flat x ++ us)
unfolding table
never_in (AMark c cs i) us d e = bang_at c cs i us true d.0 d.1 e
never_in _ us d e = absurd d

entry_bang : (x : Tree) (us : List Token) → Derives x (type_entry WithPlus) us
    → (is_never (choice (kept x)) ≡ true → sees brace us ≡ true) → Lacks bang_stands (flat x ++ us)
unfolding held
entry_bang (First x) us d h = group_bang (flat x ++ us) d.0
entry_bang (Second (First (Node k x))) us d h =
    never_in x us (subst (λ j. Derives x (table j) us) d.1.1.0 d.1.1.1)
    (h (subst (λ j. is_never (kept (Node j x)) ≡ true) (sym d.1.1.0) refl))
entry_bang (Second (First _)) us d h = absurd d.1.1
entry_bang (Second (Second x)) us d h = no_bang (flat x ++ us) d.1.0
entry_bang (Second _) us d h = absurd d.1
entry_bang _ us d h = absurd d

type_bang : (x : Tree) (us : List Token) → Derives x (ref (AType WithPlus)) us
    → (is_never_type (kept x) ≡ true → sees brace us ≡ true) → Lacks bang_stands (flat x ++ us)
unfolding table held
type_bang (Node k x) us d h =
    entry_bang x us (subst (λ j. Derives x (table j) us) d.0 d.1)
    (λ e. h (subst (λ j. is_never_type (kept (Node j x)) ≡ true) (sym d.0) e))
type_bang _ us d h = absurd d

-- behind it stand the braces
or_second : (a b : Bool) → (not a || b) ≡ true → a ≡ true → b ≡ true
or_second true b e h = e
or_second false b e h = cc

braces_next : (f v b : Tree) (s : List Token) → Fits (Pair f (Pair v b)) (a_for ▸ ended)
    → (not (is_there (kept f)) && is_absent (kept v)) ≡ true → sees brace (flat (Pair f (Pair v b)) ++ s) ≡ true
braces_next (First a) v b s d e = cc
braces_next (Second Nil) v (Group g b) s d e =
    subst (λ us. sees brace ((us ++ flat (Group g b)) ++ s) ≡ true)
    (sym (absent_flat v d.1.0 (sym (absent_fits v d.1.0) ∙ e)))
    (subst (λ j. sees brace (flat (Group j b) ++ s) ≡ true) (sym d.1.1.0) refl)
braces_next (Second Nil) v _ s d e = absurd d.1.1
braces_next (Second _) v b s d e = absurd d.0.1
braces_next _ v b s d e = absurd d.0

-- and the generics
after_generics : (x : Tree) (ts : List Token) → (is_generic x ≡ false → Lacks impl_generics_stand ts)
    → After ImplGenerics x ts
after_generics x ts h = go (is_generic x) refl
  where
    go : (b : Bool) → is_generic x ≡ b → After ImplGenerics x ts
    go true e = inr e
    go false e = inl (h e, tt)

or_left : (a b : Bool) → (a || b) ≡ true → a ≡ false → b ≡ true
or_left true b e h = cc
or_left false b e h = e

bang_generics : (x : Tree) (ts : List Token) → sees bang_stands ts ≡ true → Lacks impl_generics_stand ts
bang_generics x ts e = angle_none ts (mark_other 33 60 [] ts refl (front_seen ((marks "!") ts) (no brace) e))

no_generics : (p t y : Tree) (s : List Token) → Derives p polarity (flat (Pair t y) ++ s)
    → Derives t (ref (AType WithPlus)) (flat y ++ s) → (is_there (kept p) || not (begins_bracketed (kept t))) ≡ true
    → Lacks impl_generics_stand (flat p ++ (flat (Pair t y) ++ s))
no_generics (First a) t y s d u e = bang_generics a (flat a ++ (flat (Pair t y) ++ s)) d.0
no_generics (Second Nil) t y s d u e =
    subst (Lacks impl_generics_stand) (sym (append_assoc (flat t) (flat y) s))
    (type_generics t (flat y ++ s) u (is_false (begins_bracketed (kept t)) e))
no_generics (Second _) t y s d u e = absurd d.1
no_generics _ t y s d u e = absurd d

-- what stands behind the word impl
abbrev pub core : Gram
core = the_generics ∶ ref ImplGenerics ▸ polarity ▸ the_first ∶ ref (AType WithPlus) ▸ a_for ▸ ended

polarity_read : (p t y : Tree) (s : List Token) → Fits p polarity → Derives t (ref (AType WithPlus)) (flat y ++ s)
    → IsAmong (starts (AType WithPlus)) (flat t ++ (flat y ++ s))
    → (is_there (kept p) ≡ false → is_never_type (kept t) ≡ true → sees brace (flat y ++ s) ≡ true)
    → Derives p polarity (flat (Pair t y) ++ s)
polarity_read (First (Called n x)) t y s f u i h = (
  subst (λ us. sees bang_stands (flat x ++ us) ≡ true) (sym (append_assoc (flat t) (flat y) s))
      (bang_seen (Called n x) (flat t ++ (flat y ++ s)) f.1
      (told_at brace false (starts (AType WithPlus)) (flat t ++ (flat y ++ s)) (search) i)),
  sign_read n x f.1,
)
  where
    sign_read : (n : Part) (x : Tree) → Fits (Called n x) (the_polarity ∶ sign "!")
        → Derives (Called n x) (the_polarity ∶ sign "!") (flat (Pair t y) ++ s)
    sign_read n (AMark c cs k) f = (f.0, (f.1.0, f.1.1))
    sign_read n _ f = absurd f.1
polarity_read (First _) t y s f u i h = absurd f.1
polarity_read (Second Nil) t y s f u i h =
    (subst (Lacks bang_stands) (sym (append_assoc (flat t) (flat y) s)) (type_bang t (flat y ++ s) u (h refl)), tt)
polarity_read (Second _) t y s f u i h = absurd f.1
polarity_read _ t y s f u i h = absurd f

own_braces : (p t f v b : Tree) (s : List Token) → Fits (Pair f (Pair v b)) (a_for ▸ ended)
    → (is_there (kept p) || (not (is_never_type (kept t)) || (not (is_there (kept f)) && is_absent (kept v)))) ≡ true
    → is_there (kept p) ≡ false → is_never_type (kept t) ≡ true → sees brace (flat (Pair f (Pair v b)) ++ s) ≡ true
own_braces p t f v b s d e n h =
    braces_next f v b s d (or_second (is_never_type (kept t)) (not (is_there (kept f)) && is_absent (kept v))
    (or_left (is_there (kept p)) (not (is_never_type (kept t)) || (not (is_there (kept f)) && is_absent (kept v))) e n)
    h)

abbrev pub CoreEdge : Edge
CoreEdge x s = IsOwnImpl (kept x)

fine_core : Fine core CoreEdge Any
unfolding skips
fine_core = record { by = go }
  where
    go : (x : Tree) (s : List Token) → Fits x core → Ready x → CoreEdge x s → Derives x core s × Any x s
    go (Pair (Called n g) (Pair p (Pair (Called m t) (Pair f (Pair v b))))) s d w o =
        let y : Tree = Pair f (Pair v b) in
        let z : (not (is_there f) || is_any_path t) ≡ true =
        sym (or_same (not (is_there (kept f))) (is_any_path (kept t)) (not (is_there f)) (is_any_path t)
        (ap not (chosen_fits f a_for d.1.1.1.0)) (path_fits t (ref (AType WithPlus)) d.1.1.0.1)) ∙ o.2 in
        let (tail, i) = found_tail.fine.by y s d.1.1.1 w.1.1.1 tt in
        let (u, j) = (fine_ref {k = AType WithPlus}).by t (flat y ++ s) d.1.1.0.1 w.1.1.0
        (after_type t f (Pair v b) s d.1.1.1 w.1.1.1 z) in
        let q = polarity_read p t y s d.1.0 u j (own_braces p t f v b s d.1.1.1 o.1) in
        let l : is_generic g ≡ false → Lacks impl_generics_stand (flat p ++ (flat (Pair t y) ++ s)) =
        λ e. no_generics p t y s q u
        (or_left (is_generic (kept g)) (is_there (kept p) || not (begins_bracketed (kept t))) o.0
        (generic_fits g d.0.1 ∙ e)) in
        let (k, h) = (fine_ref {k = ImplGenerics}).by g ((flat p ++ flat (Pair t y)) ++ s) d.0.1 w.0
        (after_generics g ((flat p ++ flat (Pair t y)) ++ s)
        (λ e. subst (Lacks impl_generics_stand) (sym (append_assoc (flat p) (flat (Pair t y)) s)) (l e))) in
        (((d.0.0, k), (q, ((d.1.1.0.0, u), tail))), tt)
    go (Pair (Called n g) (Pair p (Pair (Called m t) (Pair f _)))) s d w o = absurd d.1.1.1.1
    go (Pair (Called n g) (Pair p (Pair (Called m t) _))) s d w o = absurd d.1.1.1
    go (Pair (Called n g) (Pair p (Pair _ y))) s d w o = absurd d.1.1.0
    go (Pair (Called n g) (Pair p _)) s d w o = absurd d.1.1
    go (Pair (Called n g) _) s d w o = absurd d.1
    go (Pair _ y) s d w o = absurd d.0
    go _ s d w o = absurd d

-- the words in front
abbrev pub ImplEdge : Edge
ImplEdge x s = IsOwnImpl (back (kept x))

fine_word : Fine (keyword "impl" ▸ core) ImplEdge (At (TheWord (codes "impl") ∷ []))
fine_word =
    fine_seq ImplEdge (At (TheWord (codes "impl") ∷ [])) (found_text "impl").fine fine_core (λ x y s c. c)
    (λ x y s i c. tt)
    (λ x y s j i c. at_front (TheWord (codes "impl") ∷ []) x y s j)

fine_impl : Fine impl_form (λ x s. IsOwnImpl (back (back (back (back (kept x)))))) (At (starts AnImpl))
fine_impl =
    maybe_ahead (λ x s. IsOwnImpl (back (back (back (back (kept x))))))
    (TheWord (codes "const") ∷ TheWord (codes "unsafe") ∷ TheWord (codes "impl") ∷ [])
    (found_optional (at "default") (found_called (found_text "default")) (λ us. refl, tt))
    (maybe_ahead (λ x s. IsOwnImpl (back (back (back (kept x)))))
    (TheWord (codes "unsafe") ∷ TheWord (codes "impl") ∷ [])
    (found_optional (at "const") (found_called (found_text "const")) (λ us. refl, tt))
    (maybe_ahead (λ x s. IsOwnImpl (back (back (kept x)))) (TheWord (codes "impl") ∷ [])
    (found_optional (at "unsafe") (found_called (found_text "unsafe")) (λ us. refl, tt)) fine_word
    ((λ us. refl, tt), tt) (λ x y s c. c))
    ((λ us. refl, (λ us. refl, tt)), tt) (λ x y s c. c))
    ((λ us. refl, (λ us. refl, (λ us. refl, tt))), tt)
    (λ x y s c. c)

pub step_an_impl : Step AnImpl
unfolding table skips
step_an_impl =
    meant_step AnImpl refl refl
    (fine_weaker (λ x s. LacksAll [] s × IsMeant AnImpl x) (At (starts AnImpl))
    (fine_judged {A = λ x s. IsOwnImpl (behind_impl (kept x))} {F = At (starts AnImpl)} is_impl fine_impl)
    (λ x s c. c.1)
    (λ x s i c. i))

-- of what was read, in normal form: no part of a name that its entry doesn't call
pub none_found : (n : Part) (x : Tree) (g : Gram) (r : List Token) → Derives x g r → lacks_part n g ≡ true
    → found n (normal_in Plain (kept x)) ≡ None
none_found n (Called m x) (called l g) r d e =
    ap (λ b. cond b (Some (normal_in (place_of m) (kept x))) None)
    (ap (λ j. same_part j n) d.0 ∙ is_false (same_part l n) e)
none_found n (Pair x y) (seq a b) r d e =
    let h = both_true (lacks_part n a) (lacks_part n b) e in
    ap (λ o. or_else o (found n (normal_in Plain (kept y)))) (none_found n x a (flat y ++ r) d.0 h.0)
    ∙ none_found n y b r d.1 h.1
none_found n (First x) (alt t a b) r d e =
    none_found n x a r d.1 (both_true (lacks_part n a) (lacks_part n b) e).0
none_found n (First x) (judged v g) r d e = none_found n x g r d.1 e
none_found n (Second x) (alt t a b) r d e =
    none_found n x b r d.1 (both_true (lacks_part n a) (lacks_part n b) e).1
none_found n (Group f x) (group g h) r d e = none_found n x h [] d.1 e
none_found n (Called m x) _ r d e = absurd d
none_found n (Pair x y) _ r d e = absurd d
none_found n (First x) _ r d e = absurd d
none_found n (Second x) _ r d e = absurd d
none_found n (Group f x) _ r d e = absurd d
none_found n (Back l k y) _ r d e = absurd d
none_found n _ _ r d e = refl

-- an impl that was read
abbrev pub impl_tree : Tree → Tree → Tree → Tree → Tree → Tree → Tree → Tree → Tree → Tree → Tree
impl_tree d c u i g p t f v b =
    First (Pair d (Pair c (Pair u (Pair i (Pair (Called the_generics g) (Pair p (Pair (Called the_first t)
    (Pair f (Pair (Called the_where v) b)))))))))

-- the part of that name isn't among these
abbrev pub IsFree : Tree → Type 0
IsFree x =
    (found the_polarity (normal_in Plain (kept x)) ≡ None)
    × (found the_self (normal_in Plain (kept x)) ≡ None)
    × (found the_first (normal_in Plain (kept x)) ≡ None)

skip : (n : Part) (a b : Tree) → found n a ≡ None → found n (Pair a b) ≡ found n b
skip n a b e = ap (λ o. or_else o (found n b)) e

skip_words : (n : Part) (d c u i z : Tree) → found n d ≡ None → found n c ≡ None → found n u ≡ None → found n i ≡ None
    → found n (First (Pair d (Pair c (Pair u (Pair i z))))) ≡ found n z
skip_words n d c u i z e f g h =
    skip n d (Pair c (Pair u (Pair i z))) e ∙ skip n c (Pair u (Pair i z)) f ∙ skip n u (Pair i z) g ∙ skip n i z h

-- without ! and for, the generics are kept where the type begins with < Ident >
keeps_is : (d c u i g t v b : Tree) → IsFree d → IsFree c → IsFree u → IsFree i → IsFree b
    → keeps_generics (normal_in Plain (kept (impl_tree d c u i g (Second Nil) t (Second Nil) v b)))
    ≡ begins_bracketed (normal_in Plain (kept t))
unfolding same_part place_of
keeps_is d c u i g t v b hd hc hu hi hb =
    let z : Tree = Pair (Called the_generics (normal_in Plain (kept g))) (Pair (Second Nil)
    (Pair (Called the_first (normal_in Plain (kept t))) (Pair (Second Nil)
    (Pair (Called the_where (normal_in Plain (kept v))) (normal_in Plain (kept b)))))) in
    let x : Tree = normal_in Plain (kept (impl_tree d c u i g (Second Nil) t (Second Nil) v b)) in
    let e : found the_polarity x ≡ None = skip_words the_polarity (normal_in Plain (kept d)) (normal_in Plain (kept c))
    (normal_in Plain (kept u)) (normal_in Plain (kept i)) z hd.0 hc.0 hu.0 hi.0 ∙ hb.0 in
    let f : found the_self x ≡ None = skip_words the_self (normal_in Plain (kept d)) (normal_in Plain (kept c))
    (normal_in Plain (kept u)) (normal_in Plain (kept i)) z hd.1 hc.1 hu.1 hi.1 ∙ hb.1 in
    let h : found the_first x ≡ Some (normal_in Plain (kept t)) = skip_words the_first (normal_in Plain (kept d))
    (normal_in Plain (kept c)) (normal_in Plain (kept u)) (normal_in Plain (kept i)) z hd.2 hc.2 hu.2 hi.2 in
    ap (λ o. not (is_some o || has the_self x) && begins_bracketed (the the_first x)) e
    ∙ ap (λ o. not (false || is_some o) && begins_bracketed (the the_first x)) f
    ∙ ap (λ o. begins_bracketed (or_nil o)) h

or_true : (a b : Bool) → b ≡ true → (a || b) ≡ true
or_true true b e = refl
or_true false b e = e

-- of what is read: where no generics stand, the type begins with none
abbrev pub IsRead : Tree → Tree → Tree → Tree → Tree → Type 0
IsRead g p t f v =
    let n : Tree → Tree = λ x. normal_in Plain (kept x) in
    IsOwn (is_generic (n g)) (is_there (n p)) (n t) (is_there (n f)) (Called the_where (n v))

tidied_own : (d c u i g p t f v b : Tree) → IsRead g p t f v
    → (keeps_generics (normal_in Plain (kept (impl_tree d c u i g p t f v b))) ≡ false
    → (is_there (normal_in Plain (kept p)) || not (begins_bracketed (normal_in Plain (kept t)))) ≡ true)
    → IsOwnImpl (behind_impl (tidy_impl (normal_in Plain (kept (impl_tree d c u i g p t f v b)))))
unfolding same_part place_of
tidied_own d c u i g p t f v b o h = go (keeps_generics x) refl
  where
    x : Tree
    x = normal_in Plain (kept (impl_tree d c u i g p t f v b))

    pn : Tree
    pn = normal_in Plain (kept p)

    fn : Tree
    fn = normal_in Plain (kept f)

    tn : Tree
    tn = normal_in Plain (kept t)

    go : (k : Bool) → keeps_generics x ≡ k
        → IsOwnImpl (behind_impl (cond k x (changed the_generics without_generics x)))
    go true e = o
    go false e =
        subst (λ q. IsOwn (is_generic (without_generics (normal_in Plain (kept g)))) q tn
        (is_there (changed the_generics without_generics fn)) (Called the_where (normal_in Plain (kept v))))
        (sym (changed_there the_generics without_generics pn))
        (subst (λ q. IsOwn (is_generic (without_generics (normal_in Plain (kept g)))) (is_there pn) tn q
        (Called the_where (normal_in Plain (kept v))))
        (sym (changed_there the_generics without_generics fn)) (
          or_true (is_generic (without_generics (normal_in Plain (kept g)))) (is_there pn || not (begins_bracketed tn))
              (h e),
          o.1,
          o.2,
        ))

-- what the tests say of what was read
path_open_type : (t : Tree) (r : List Token) → Derives t (ref (AType WithPlus)) r → is_path_type t ≡ true
    → begins_bracketed (normal_in Plain (kept t)) ≡ false
unfolding held passed
path_open_type (Node k x) r d e =
    subst (λ j. begins_bracketed (normal_in Plain (kept (Node j x))) ≡ false) (sym d.0)
    (path_open x (subst (λ j. is_path_type (Node j x) ≡ true) d.0 e))
path_open_type _ r d e = absurd d

bracketed_type : (t : Tree) (r : List Token) → Derives t (ref (AType WithPlus)) r
    → begins_bracketed (normal_in Plain (kept t)) ≡ true → sees impl_generics_stand (flat t ++ r) ≡ true
unfolding held passed
bracketed_type (Node k x) r d e =
    bracketed_read x (table k) r d.1 (subst (λ j. begins_bracketed (normal_in Plain (kept (Node j x))) ≡ true) d.0 e)
bracketed_type _ r d e = absurd d

never_type : (t : Tree) (r : List Token) → Derives t (ref (AType WithPlus)) r
    → is_never_type (normal_in Plain (kept t)) ≡ true → Lacks bang_stands (flat t ++ r) → sees brace r ≡ true
unfolding held passed
never_type (Node k x) r d e h =
    never_read x (table k) r d.1 (subst (λ j. is_never_type (normal_in Plain (kept (Node j x))) ≡ true) d.0 e) h
never_type _ r d e h = absurd d

generics_in : (g : Tree) (r : List Token) → Derives g (table ImplGenerics) r
    → is_generic (normal_in Plain (kept g)) ≡ false → Lacks impl_generics_stand r
unfolding table
generics_in (First x) r d e = cc
generics_in (Second Nil) r d e = d.0
generics_in (Second _) r d e = absurd d.1
generics_in _ r d e = absurd d

generics_read : (g : Tree) (r : List Token) → Derives g (ref ImplGenerics) r
    → is_generic (normal_in Plain (kept g)) ≡ false → Lacks impl_generics_stand r
unfolding held passed
generics_read (Node k x) r d e =
    generics_in x r (subst (λ j. Derives x (table j) r) d.0 d.1)
    (subst (λ j. is_generic (normal_in Plain (kept (Node j x))) ≡ false) d.0 e)
generics_read _ r d e = absurd d

pub contrary : (b : Bool) → b ≡ true → b ≡ false → ⊥
contrary true e f = cc
contrary false e f = cc

-- its generics are its own
generics_own : (g p t y : Tree) (r : List Token) → Derives g (ref ImplGenerics) (flat (Pair p (Pair t y)) ++ r)
    → Derives p polarity (flat (Pair t y) ++ r) → Derives t (ref (AType WithPlus)) (flat y ++ r)
    → (is_generic (normal_in Plain (kept g)) || (is_there (normal_in Plain (kept p))
    || not (begins_bracketed (normal_in Plain (kept t))))) ≡ true
generics_own g (First a) t y r d u v = or_true (is_generic (normal_in Plain (kept g))) true refl
generics_own g (Second Nil) t y r d u v = go (is_generic (normal_in Plain (kept g))) refl
  where
    other : (b : Bool) → begins_bracketed (normal_in Plain (kept t)) ≡ b
        → Lacks impl_generics_stand ((flat t ++ flat y) ++ r) → not b ≡ true
    other false e l = refl
    other true e l =
        absurd (contrary (sees impl_generics_stand (flat t ++ (flat y ++ r))) (bracketed_type t (flat y ++ r) v e)
        (subst (Lacks impl_generics_stand) (append_assoc (flat t) (flat y) r) l))

    go : (b : Bool) → is_generic (normal_in Plain (kept g)) ≡ b
        → (b || not (begins_bracketed (normal_in Plain (kept t)))) ≡ true
    go true e = refl
    go false e =
        other (begins_bracketed (normal_in Plain (kept t))) refl
        (generics_read g (flat (Pair (Second Nil) (Pair t y)) ++ r) d e)
generics_own g (Second _) t y r d u v = absurd u.1
generics_own g _ t y r d u v = absurd u

-- behind a ! stand braces
braces_behind : (f v b : Tree) (r : List Token) → Derives (Pair f (Pair v b)) (a_for ▸ ended) r
    → sees brace (flat (Pair f (Pair v b)) ++ r) ≡ true
    → (not (is_there (normal_in Plain (kept f))) && is_absent (normal_in Plain (kept v))) ≡ true
braces_behind (First a) v b r d e =
    absurd (contrary (sees (at "for") (flat a ++ (flat (Pair v b) ++ r))) d.0.0
    (group_is_none _ Brace (flat a ++ (flat (Pair v b) ++ r))
    (subst (λ us. sees brace us ≡ true) (append_assoc (flat a) (flat (Pair v b)) r) e)))
braces_behind (Second Nil) v b r d e =
    absent_read v (flat b ++ r) d.1.0
    (group_is_none _ Brace (flat v ++ (flat b ++ r))
    (subst (λ us. sees brace us ≡ true) (append_assoc (flat v) (flat b) r) e))
braces_behind (Second _) v b r d e = absurd d.0.1
braces_behind _ v b r d e = absurd d.0

mark_own : (p t f v b : Tree) (r : List Token) → Derives p polarity (flat (Pair t (Pair f (Pair v b))) ++ r)
    → Derives t (ref (AType WithPlus)) (flat (Pair f (Pair v b)) ++ r) → Derives (Pair f (Pair v b)) (a_for ▸ ended) r
    → (is_there (normal_in Plain (kept p)) || (not (is_never_type (normal_in Plain (kept t)))
    || (not (is_there (normal_in Plain (kept f))) && is_absent (normal_in Plain (kept v))))) ≡ true
mark_own (First a) t f v b r d u w = refl
mark_own (Second Nil) t f v b r d u w = go (is_never_type (normal_in Plain (kept t))) refl
  where
    y : Tree
    y = Pair f (Pair v b)

    go : (n : Bool) → is_never_type (normal_in Plain (kept t)) ≡ n
        → (not n || (not (is_there (normal_in Plain (kept f))) && is_absent (normal_in Plain (kept v)))) ≡ true
    go false e = refl
    go true e =
        braces_behind f v b r w (never_type t (flat y ++ r) u e
        (subst (Lacks bang_stands) (append_assoc (flat t) (flat y) r) d.0))
mark_own (Second _) t f v b r d u w = absurd d.1
mark_own _ t f v b r d u w = absurd d

-- and its trait is a path
trait_own : (t f : Tree) (r q : List Token) → Derives f a_for q → Derives t (ref (AType WithPlus)) r
    → (not (is_there f) || is_path_type t) ≡ true
    → (not (is_there (normal_in Plain (kept f))) || is_any_path (normal_in Plain (kept t))) ≡ true
trait_own t (First a) r q d u e = path_is t r u e
trait_own t (Second x) r q d u e = refl
trait_own t _ r q d u e = absurd d

-- without its generics it begins none
bare_own : (d c u i g p t f v b : Tree) (r q z : List Token) → IsFree d → IsFree c → IsFree u → IsFree i → IsFree b
    → Derives p polarity q → Derives f a_for z → Derives t (ref (AType WithPlus)) r
    → (not (is_there f) || is_path_type t) ≡ true
    → keeps_generics (normal_in Plain (kept (impl_tree d c u i g p t f v b))) ≡ false
    → (is_there (normal_in Plain (kept p)) || not (begins_bracketed (normal_in Plain (kept t)))) ≡ true
bare_own d c u i g (First a) t f v b r q z hd hc hu hi hb dp df dt e k = refl
bare_own d c u i g (Second Nil) t (First a) v b r q z hd hc hu hi hb dp df dt e k = ap not (path_open_type t r dt e)
bare_own d c u i g (Second Nil) t (Second Nil) v b r q z hd hc hu hi hb dp df dt e k =
    ap not (sym (keeps_is d c u i g t v b hd hc hu hi hb) ∙ k)
bare_own d c u i g (Second Nil) t (Second _) v b r q z hd hc hu hi hb dp df dt e k = absurd df.1
bare_own d c u i g (Second Nil) t _ v b r q z hd hc hu hi hb dp df dt e k = absurd df
bare_own d c u i g (Second _) t f v b r q z hd hc hu hi hb dp df dt e k = absurd dp.1
bare_own d c u i g _ t f v b r q z hd hc hu hi hb dp df dt e k = absurd dp

impl_own : (d c u i g p t f v b : Tree) (r : List Token) → (not (is_there f) || is_path_type t) ≡ true
    → IsFree d → IsFree c → IsFree u → IsFree i → IsFree b
    → Derives g (ref ImplGenerics) (flat (Pair p (Pair t (Pair f (Pair v b)))) ++ r)
    → Derives p polarity (flat (Pair t (Pair f (Pair v b))) ++ r)
    → Derives t (ref (AType WithPlus)) (flat (Pair f (Pair v b)) ++ r)
    → Derives (Pair f (Pair (Called the_where v) b)) (a_for ▸ ended) r
    → IsOwnImpl (behind_impl (tidy_impl (normal_in Plain (kept (impl_tree d c u i g p t f v b)))))
unfolding place_of
impl_own d c u i g p t f v b r e hd hc hu hi hb dg dp dt dy =
    tidied_own d c u i g p t f v b (
      generics_own g p t (Pair f (Pair v b)) r dg dp dt,
      mark_own p t f (Called the_where v) b r dp dt dy,
      trait_own t f (flat (Pair f (Pair v b)) ++ r) (flat (Pair v b) ++ r) dy.0 dt e,
    )
    (λ k. bare_own d c u i g p t f v b (flat (Pair f (Pair v b)) ++ r) (flat (Pair t (Pair f (Pair v b))) ++ r)
    (flat (Pair v b) ++ r) hd hc hu hi hb dp dy.0 dt e k)

free_of : (x : Tree) (g : Gram) (r : List Token) → Derives x g r → lacks_part the_polarity g ≡ true
    → lacks_part the_self g ≡ true → lacks_part the_first g ≡ true → IsFree x
free_of x g r d a b c =
    (none_found the_polarity x g r d a, none_found the_self x g r d b, none_found the_first x g r d c)

-- what was read before for is a path
twice_not : (b : Bool) → not (not b) ≡ true → b ≡ true
twice_not true e = refl
twice_not false e = e

trait_told : (x t z : Tree) → found the_first x ≡ Some t → found the_self x ≡ Some z → has_own_trait x ≡ true
    → is_path_type t ≡ true
trait_told x t z e f h =
    twice_not (is_path_type t) (sym (ap (λ o. not (is_some o && not (is_path_type (the the_first x)))) f
    ∙ ap (λ o. not (not (is_path_type (or_nil o)))) e) ∙ h)

trait_read : (d c u i g p t f y : Tree) (m : Part) (r : List Token)
    → Derives (Pair d (Pair c (Pair u (Pair i (Pair g (Pair p (Pair (Called m t) (Pair f y)))))))) impl_form r
    → has_own_trait (Pair d (Pair c (Pair u (Pair i (Pair g (Pair p (Pair (Called m t) (Pair f y)))))))) ≡ true
    → (not (is_there f) || is_path_type t) ≡ true
unfolding same_part
trait_read d c u i g p t (First (Pair w (Called n z))) y m r h e =
    let f : Tree = First (Pair w (Called n z)) in
    let x : Tree = Pair d (Pair c (Pair u (Pair i (Pair g (Pair p (Pair (Called m t) (Pair f y))))))) in
    let k = h.1.1.1.1.1.1 in
    trait_told x t z
    (past_read the_first 6 x impl_form r h refl
    ∙ ap (λ j. or_else (cond (same_part j the_first) (Some t) None) (found the_first (Pair f y))) k.0.0)
    (past_read the_self 7 x impl_form r h refl
    ∙ ap (λ o. or_else (or_else o (found the_self (Called n z))) (found the_self y))
    (no_part the_self w _ _ k.1.0.1.0 refl)
    ∙ ap (λ j. or_else (cond (same_part j the_self) (Some z) None) (found the_self y)) k.1.0.1.1.0) e
trait_read d c u i g p t (First (Pair w _)) y m r h e = absurd h.1.1.1.1.1.1.1.0.1.1
trait_read d c u i g p t (First _) y m r h e = absurd h.1.1.1.1.1.1.1.0.1
trait_read d c u i g p t _ y m r h e = refl

never_raw : (b : Bool) → kept_if b ≡ AsRaw → ⊥
never_raw true e = cc
never_raw false e = cc

impl_meant : (x : Tree) (r : List Token) → has_own_trait x ≡ true → Derives x (table AnImpl) r
    → IsOwnImpl (behind_impl (tidy_impl (normal_in Plain (kept x))))
unfolding table same_part
impl_meant (First (Pair d (Pair c (Pair u (Pair i (Pair (Called n g) (Pair p (Pair (Called m t) (Pair f
    (Pair (Called o v) b)))))))))) r e h =
    let q = h.1 in
    let k = q.1.1.1.1 in
    subst (λ j. IsOwnImpl (behind_impl (tidy_impl (normal_in Plain (kept (First (Pair d (Pair c (Pair u (Pair i
    (Pair (Called j g) (Pair p (Pair (Called m t) (Pair f (Pair (Called o v) b))))))))))))))) (sym k.0.0)
    (subst (λ j. IsOwnImpl (behind_impl (tidy_impl (normal_in Plain (kept (First (Pair d (Pair c (Pair u (Pair i
    (Pair (Called the_generics g) (Pair p (Pair (Called j t) (Pair f (Pair (Called o v) b)))))))))))))))
    (sym k.1.1.0.0)
    (subst (λ j. IsOwnImpl (behind_impl (tidy_impl (normal_in Plain (kept (First (Pair d (Pair c (Pair u (Pair i
    (Pair (Called the_generics g) (Pair p (Pair (Called the_first t) (Pair f (Pair (Called j v) b)))))))))))))))
    (sym k.1.1.1.1.0.0)
    (impl_own d c u i g p t f v b r (trait_read d c u i (Called n g) p t f (Pair (Called o v) b) m r q e)
    (free_of d _ _ q.0 refl refl refl) (free_of c _ _ q.1.0 refl refl refl)
    (free_of u _ _ q.1.1.0 refl refl refl) (free_of i _ _ q.1.1.1.0 refl refl refl)
    (free_of b (in_braces (ref InnerAttributes ▸ ref ImplItems)) r k.1.1.1.1.1 refl refl refl) k.0.1 k.1.0 k.1.1.0.1
    (k.1.1.1.0, ((refl, k.1.1.1.1.0.1), k.1.1.1.1.1)))))
impl_meant (First (Pair d
    (Pair c (Pair u (Pair i (Pair (Called n g) (Pair p (Pair (Called m t) (Pair f (Pair _ b)))))))))) r e h = absurd
    h.1.1.1.1.1.1.1.1.1.0
impl_meant (First (Pair d (Pair c (Pair u (Pair i (Pair (Called n g) (Pair p (Pair (Called m t) (Pair f _))))))))) r
    e h = absurd h.1.1.1.1.1.1.1.1.1
impl_meant (First (Pair d (Pair c (Pair u (Pair i (Pair (Called n g) (Pair p (Pair (Called m t) _)))))))) r e h =
    absurd h.1.1.1.1.1.1.1.1
impl_meant (First (Pair d (Pair c (Pair u (Pair i (Pair (Called n g) (Pair p (Pair _ y)))))))) r e h = absurd
    h.1.1.1.1.1.1.1.0
impl_meant (First (Pair d (Pair c (Pair u (Pair i (Pair (Called n g) (Pair p _))))))) r e h = absurd h.1.1.1.1.1.1.1
impl_meant (First (Pair d (Pair c (Pair u (Pair i (Pair (Called n g) _)))))) r e h = absurd h.1.1.1.1.1.1
impl_meant (First (Pair d (Pair c (Pair u (Pair i (Pair _ y)))))) r e h = absurd h.1.1.1.1.1.0
impl_meant (First (Pair d (Pair c (Pair u (Pair i _))))) r e h = absurd h.1.1.1.1.1
impl_meant (First (Pair d (Pair c (Pair u _)))) r e h = absurd h.1.1.1.1
impl_meant (First (Pair d (Pair c _))) r e h = absurd h.1.1.1
impl_meant (First (Pair d _)) r e h = absurd h.1.1
impl_meant (First _) r e h = absurd h.1
impl_meant (Verbatim x) r e h = absurd (never_raw (is_impl x) h.0)
impl_meant _ r e h = absurd h

-- normal form keeps whether there is a ! or a trait
pub changed_has : (n m : Part) (f : Tree → Tree) (x : Tree) → has n (changed m f x) ≡ has n x
changed_has n m f (Called o x) = some_called (same_part o n) (cond (same_part o m) (f x) x) x
changed_has n m f (Pair x y) =
    some_either (found n (changed m f x)) (found n (changed m f y)) (found n x) (found n y) (changed_has n m f x)
    (changed_has n m f y)
changed_has n m f (First x) = changed_has n m f x
changed_has n m f (Second x) = changed_has n m f x
changed_has n m f (Group d x) = changed_has n m f x
changed_has n m f _ = refl

same_impl : (x y : Tree) → has the_polarity x ≡ has the_polarity y → has the_self x ≡ has the_self y
    → is_impl x ≡ is_impl y
same_impl x y e f =
    or_same (not (has the_polarity x)) (has the_self x) (not (has the_polarity y)) (has the_self y) (ap not e) f

impl_verdict : VerdictLaw Plain (λ x. kept_if (is_impl x)) impl_form
impl_verdict x w r c d f e v = ap kept_if (same_impl w x (same the_polarity) (same the_self)) ∙ v
  where
    same : (n : Part) → has n w ≡ has n x
    same n =
        sym (has_fits n w impl_form f) ∙ ap (has n) e ∙ has_normal n Plain (kept x) ∙ has_read n x impl_form r d

bare_printed : (w : Tree) → Fits w (ref ImplGenerics) → Printed (ref ImplGenerics) (without_generics (kept w))
unfolding has_step table held
bare_printed (Node k x) f =
    subst (λ j. Printed (ref ImplGenerics) (without_generics (kept (Node j x)))) (sym f.0)
    (go (subst (λ j. Fits x (table j)) f.0 f.3))
  where
    go : Fits x (table ImplGenerics) → Printed (ref ImplGenerics) (without_generics (kept (Node ImplGenerics x)))
    go h =
        let i = removed_printed (sees impl_generics_stand) angled_params is_bare_generics refl x h in
        record {
          tree = Node ImplGenerics i.tree;
          fits = (refl, refl, refl, i.fits, tt);
          kept_is = ap (Node ImplGenerics) i.kept_is;
        }
bare_printed _ f = absurd f

changed_impl : (w : Tree) → Fits w impl_form → Printed impl_form (changed the_generics without_generics (kept w))
unfolding same_part
changed_impl w f =
    changed_printed the_generics without_generics w impl_form (
      (as_it_is _, tt),
      (
        (as_it_is _, tt),
        (
          (as_it_is _, tt),
          (
            tt,
            (
              bare_printed,
              (
                (as_it_is _, tt),
                (
                  as_it_is _,
                  (((tt, as_it_is _), tt), (as_it_is _, (tt, tt))),
                ),
              ),
            ),
          ),
        ),
      ),
    ) f

impl_printed : (w : Tree) → Fits w (table AnImpl) → Printed (table AnImpl) (tidy_impl (kept w))
unfolding table
impl_printed (First w) f =
    let i = changed_impl w f.1 in
    let h : (n : Part) → has n i.tree ≡ has n w =
    λ n. sym (has_fits n i.tree impl_form i.fits) ∙ ap (has n) i.kept_is
    ∙ changed_has n the_generics without_generics (kept w) ∙ has_fits n w impl_form f.1 in
    chosen (table AnImpl) (keeps_generics (kept (First w))) (kept (First w))
    (changed the_generics without_generics (kept (First w))) (as_it_is (table AnImpl) (First w) f)
    (record {
      tree = First i.tree;
      fits = (ap kept_if (same_impl i.tree w (h the_polarity) (h the_self)) ∙ f.0, i.fits);
      kept_is = ap First i.kept_is;
    })
impl_printed _ f = absurd f

pub law_an_impl : KindLaw AnImpl
unfolding has_step held passed place_of table
law_an_impl = record { entry = λ q l. kept_entry is_impl impl_verdict (simple_law Plain impl_form refl); node = go }
  where
    go : (q : Position) → IsPlaced q AnImpl → (x : Tree) (r : List Token) → has_own_trait x ≡ true
        → Derives x (table AnImpl) r → Printed (table AnImpl) (normal_in (passed AnImpl q) (kept x))
        → Printed (ref AnImpl) (normal_in q (Node (held AnImpl) (kept x)))
    go q l x r o d i =
        let j = impl_printed i.tree i.fits in
        let u = j.kept_is ∙ ap tidy_impl i.kept_is in
        record {
          tree = Node AnImpl j.tree;
          fits = (refl, refl, refl, j.fits, subst (λ z. IsOwnImpl (behind_impl z)) (sym u) (impl_meant x r o d));
          kept_is = ap (Node AnImpl) u;
        }
