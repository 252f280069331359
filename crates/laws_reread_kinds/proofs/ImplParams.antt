-- The step of the generics of an impl: where there are parameters, < begins no qualified path.
use Rattle.std.proofs.Common.{◌≡◌, ℕ, List, [], ◌∷◌, ◌++◌, refl, sym, subst, append_assoc, ⊎_elim, inl, inr}
use Rattle.std.specs.Prelude.{Bool, true, ◌⊎◌}
use Rattle.proc_macro2.specs.Token.{Token, Ident, Punct}
use Rattle.rust_leaf.specs.declared.punct.Spacing.{Spacing}
use Rattle.rust_leaf.specs.declared.punct.Spacing.TheVariants.{Alone as Apart}
use Rattle.syn_grammar.specs.Kind.{BoundsColon, ConstParam, GenericParam, GenericParams, ImplGenerics, LifetimeColon}
use Rattle.syn_grammar.specs.Kind.{LifetimeParam, OuterAttribute, OuterAttributes, TypeParam}
use Rattle.syn_grammar.specs.Name.{the_parameters}
use Rattle.syn_grammar.specs.Words.{is_ident}
use Rattle.syn_grammar.specs.Tree.{Tree, ALifetime, AMark, AWord, Nil, Pair, First, Second, End, Again, Final, More}
use Rattle.syn_grammar.specs.Tree.{Called, Node, marks as signs, flat}
use Rattle.syn_grammar.specs.Gram.{Gram, alt, mark, nothing, ref, seq}
use Rattle.syn_grammar.specs.Look.{Look, a_lifetime, an_ident, sees, ◌or◌, ◌then◌}
use Rattle.syn_grammar.specs.Say.{at, marks, ◌∶◌}
use Rattle.syn_grammar.specs.Types.{colon}
use Rattle.syn_grammar.specs.Generics.{angled_params, generic_params, impl_generics_stand, param_stands}
use Rattle.syn_grammar.specs.Ranks.{skips}
use Rattle.syn_grammar.specs.Table.{table}
use Rattle.syn_grammar.specs.Kept.{held, kept}
use Rattle.laws_reread_kinds.specs.After.{is_generic}
use Rattle.laws_reread_kinds.proofs.Choices.{first_of, second_seen}
use Rattle.laws_reread_kinds.proofs.Classes.{Sign}
use Rattle.laws_reread_kinds.proofs.Fits.{Fits}
use Rattle.laws_reread_kinds.proofs.Readies.{Step}
use Rattle.laws_reread_kinds.proofs.Parts.{Found, found_mark, found_seq, maybe_called, maybe_ref, maybe_seq}

-- what stands behind a parameter's name
abbrev pub behind_name : Look
behind_name = marks ">" or marks "," or marks "=" or colon

sign_seen : (c d : ℕ) (cs ds : List ℕ) (i : Spacing) (ts : List Token) → c ≡ d → cs ≡ ds → Apart ≡ i
    → sees behind_name (signs d ds Apart ++ ts) ≡ true → sees behind_name (signs c cs i ++ ts) ≡ true
sign_seen c d cs ds i ts e f g h =
    subst (λ a. sees behind_name (signs a cs i ++ ts) ≡ true) (sym e)
    (subst (λ ks. sees behind_name (signs d ks i ++ ts) ≡ true) (sym f)
    (subst (λ j. sees behind_name (signs d ds j ++ ts) ≡ true) g h))

-- a part that begins with a : or a =, or isn't there
optional_seen : (t : List Token → Bool) (d : ℕ) (g : Gram) (x : Tree) (us : List Token)
    → Fits x (alt t (seq (mark d []) g) nothing)
    → ((ts : List Token) → sees behind_name (Punct d Apart ∷ ts) ≡ true) → sees behind_name us ≡ true
    → sees behind_name (flat x ++ us) ≡ true
optional_seen t d g (First (Pair (AMark c cs i) y)) us f h e =
    subst (λ ts. sees behind_name ts ≡ true) (sym (append_assoc (signs c cs i) (flat y) us))
    (sign_seen c d cs [] i (flat y ++ us) f.1.0.0 f.1.0.1 f.1.0.2 (h (flat y ++ us)))
optional_seen t d g (First (Pair _ y)) us f h e = absurd f.1.0
optional_seen t d g (First _) us f h e = absurd f.1
optional_seen t d g (Second Nil) us f h e = e
optional_seen t d g (Second _) us f h e = absurd f.1
optional_seen t d g _ us f h e = absurd f

lifetimes_seen : (x : Tree) (us : List Token) → Fits x (ref LifetimeColon) → sees behind_name us ≡ true
    → sees behind_name (flat x ++ us) ≡ true
unfolding table
lifetimes_seen (Node k x) us f e =
    optional_seen _ 58 _ x us (subst (λ j. Fits x (table j)) f.0 f.3) (λ ts. refl) e
lifetimes_seen _ us f e = absurd f

bounds_seen : (x : Tree) (us : List Token) → Fits x (ref BoundsColon) → sees behind_name us ≡ true
    → sees behind_name (flat x ++ us) ≡ true
unfolding table
bounds_seen (Node k x) us f e =
    optional_seen _ 58 _ x us (subst (λ j. Fits x (table j)) f.0 f.3) (λ ts. refl) e
bounds_seen _ us f e = absurd f

-- attributes begin with #
hash_at : (c : ℕ) (cs : List ℕ) (i : Spacing) (ts : List Token) → c ≡ 35 → cs ≡ []
    → sees (marks "#") (signs c cs i ++ ts) ≡ true
hash_at c cs i ts e f =
    subst (λ d. sees (marks "#") (signs d cs i ++ ts) ≡ true) (sym e)
    (subst (λ ds. sees (marks "#") (signs 35 ds i ++ ts) ≡ true) (sym f) refl)

hash_in : (x : Tree) (us : List Token) → Fits x (table OuterAttribute) → sees (marks "#") (flat x ++ us) ≡ true
unfolding table
hash_in (Pair (AMark c cs i) y) us f =
    subst (λ ts. sees (marks "#") ts ≡ true) (sym (append_assoc (signs c cs i) (flat y) us))
    (hash_at c cs i (flat y ++ us) f.0.0 f.0.1)
hash_in (Pair _ y) us f = absurd f.0
hash_in _ us f = absurd f

attributes_in : (x : Tree) (us : List Token) → Fits x (table OuterAttributes)
    → (flat x ≡ []) ⊎ (sees (marks "#") (flat x ++ us) ≡ true)
unfolding table
attributes_in End us f = inl refl
attributes_in (Again (Node k x) y) us f =
    inr (subst (λ ts. sees (marks "#") ts ≡ true) (sym (append_assoc (flat x) (flat y) us))
    (hash_in x (flat y ++ us) (subst (λ j. Fits x (table j)) f.0.0 f.0.3)))
attributes_in (Again _ y) us f = absurd f.0
attributes_in _ us f = absurd f

attributes_seen : (x : Tree) (us : List Token) → Fits x (ref OuterAttributes)
    → (flat x ≡ []) ⊎ (sees (marks "#") (flat x ++ us) ≡ true)
attributes_seen (Node k x) us f = attributes_in x us (subst (λ j. Fits x (table j)) f.0 f.3)
attributes_seen _ us f = absurd f

-- a parameter, behind its attributes
behind_none : (o y : Tree) (us : List Token) → Fits o (ref OuterAttributes)
    → sees param_stands (flat y ++ us) ≡ true → sees param_stands ((flat o ++ flat y) ++ us) ≡ true
behind_none o y us f e =
    subst (λ ts. sees param_stands ts ≡ true) (sym (append_assoc (flat o) (flat y) us))
    (⊎_elim (λ n. subst (λ xs. sees param_stands (xs ++ (flat y ++ us)) ≡ true) (sym n) e)
    (λ h. let ts = flat o ++ (flat y ++ us) in
    first_of ((marks "#") ts) ((at "const" or ((a_lifetime or an_ident) then behind_name)) ts) h)
    (attributes_seen o (flat y ++ us) f))

lifetime_in : (x : Tree) (us : List Token) → Fits x (table LifetimeParam) → sees behind_name us ≡ true
    → sees param_stands (flat x ++ us) ≡ true
unfolding table
lifetime_in (Pair o (Pair (ALifetime cs) c)) us f e =
    behind_none o (Pair (ALifetime cs) c) us f.0 (lifetimes_seen c us f.1.1 e)
lifetime_in (Pair o (Pair _ c)) us f e = absurd f.1.0
lifetime_in (Pair o _) us f e = absurd f.1
lifetime_in _ us f e = absurd f

const_in : (x : Tree) (us : List Token) → Fits x (table ConstParam) → sees param_stands (flat x ++ us) ≡ true
unfolding table
const_in (Pair o (Pair (AWord cs) y)) us f = behind_none o (Pair (AWord cs) y) us f.0 (simp f.1.0 refl)
const_in (Pair o (Pair _ y)) us f = absurd f.1.0
const_in (Pair o _) us f = absurd f.1
const_in _ us f = absurd f

pub ident_seen : (cs : List ℕ) (ts : List Token) → is_ident cs ≡ true → sees behind_name ts ≡ true
    → sees param_stands (Ident cs ∷ ts) ≡ true
ident_seen cs ts i e =
    let us : List Token = Ident cs ∷ ts in
    second_seen ((at "const") us) (((a_lifetime or an_ident) then behind_name) us) (simp i e)

type_in : (x : Tree) (us : List Token) → Fits x (table TypeParam) → sees behind_name us ≡ true
    → sees param_stands (flat x ++ us) ≡ true
unfolding table
type_in (Pair o (Pair (AWord cs) (Pair b t))) us f e =
    behind_none o (Pair (AWord cs) (Pair b t)) us f.0
    (ident_seen cs ((flat b ++ flat t) ++ us) f.1.0
    (subst (λ ts. sees behind_name ts ≡ true) (sym (append_assoc (flat b) (flat t) us))
    (bounds_seen b (flat t ++ us) f.1.1.0 (optional_seen _ 61 _ t us f.1.1.1 (λ ts. refl) e))))
type_in (Pair o (Pair (AWord cs) _)) us f e = absurd f.1.1
type_in (Pair o (Pair _ y)) us f e = absurd f.1.0
type_in (Pair o _) us f e = absurd f.1
type_in _ us f e = absurd f

param_in : (x : Tree) (us : List Token) → Fits x (table GenericParam) → sees behind_name us ≡ true
    → sees param_stands (flat x ++ us) ≡ true
unfolding table
param_in (First (Called n (Node k x))) us f e = lifetime_in x us (subst (λ j. Fits x (table j)) f.1.1.0 f.1.1.3) e
param_in (First (Called n _)) us f e = absurd f.1.1
param_in (First _) us f e = absurd f.1
param_in (Second (First (Node k x))) us f e = const_in x us (subst (λ j. Fits x (table j)) f.1.1.0 f.1.1.3)
param_in (Second (First _)) us f e = absurd f.1.1
param_in (Second (Second (Node k x))) us f e = type_in x us (subst (λ j. Fits x (table j)) f.1.1.0 f.1.1.3) e
param_in (Second (Second _)) us f e = absurd f.1.1
param_in (Second _) us f e = absurd f.1
param_in _ us f e = absurd f

param_seen : (x : Tree) (us : List Token) → Fits x (ref GenericParam) → sees behind_name us ≡ true
    → sees param_stands (flat x ++ us) ≡ true
param_seen (Node k x) us f e = param_in x us (subst (λ j. Fits x (table j)) f.0 f.3) e
param_seen _ us f e = absurd f

-- parameters before >
abbrev pub inside_stands : Look
inside_stands = marks ">" or param_stands

list_seen : (x : Tree) (s : List Token) → Fits x generic_params
    → sees inside_stands (flat x ++ (Punct 62 Apart ∷ s)) ≡ true
list_seen End s f = refl
list_seen (Final x) s f =
    let ts = flat x ++ (Punct 62 Apart ∷ s) in
    second_seen ((marks ">") ts) (param_stands ts) (param_seen x (Punct 62 Apart ∷ s) f refl)
list_seen (More x c i y) s f =
    let us = flat y ++ (Punct 62 Apart ∷ s) in
    subst (λ ts. sees inside_stands ts ≡ true) (sym (append_assoc (flat x) (Punct c i ∷ flat y) (Punct 62 Apart ∷ s)))
    (subst (λ d. sees inside_stands (flat x ++ (Punct d i ∷ us)) ≡ true) (sym f.0)
    (let ts = flat x ++ (Punct 44 i ∷ us) in
    second_seen ((marks ">") ts) (param_stands ts) (param_seen x (Punct 44 i ∷ us) f.2 refl)))
list_seen _ s f = absurd f

params_seen : (x : Tree) (s : List Token) → Fits x (the_parameters ∶ ref GenericParams)
    → sees inside_stands (flat x ++ (Punct 62 Apart ∷ s)) ≡ true
unfolding table
params_seen (Called n (Node k x)) s f = list_seen x s (subst (λ j. Fits x (table j)) f.1.0 f.1.3)
params_seen (Called n _) s f = absurd f.1
params_seen _ s f = absurd f

closed_seen : (c : ℕ) (cs : List ℕ) (i : Spacing) (x : Tree) (s : List Token) → c ≡ 62 → cs ≡ [] → Apart ≡ i
    → sees inside_stands (flat x ++ (Punct 62 Apart ∷ s)) ≡ true
    → sees inside_stands ((flat x ++ signs c cs i) ++ s) ≡ true
closed_seen c cs i x s e f g h =
    subst (λ ts. sees inside_stands ts ≡ true) (sym (append_assoc (flat x) (signs c cs i) s))
    (subst (λ d. sees inside_stands (flat x ++ (signs d cs i ++ s)) ≡ true) (sym e)
    (subst (λ ds. sees inside_stands (flat x ++ (signs 62 ds i ++ s)) ≡ true) (sym f)
    (subst (λ j. sees inside_stands (flat x ++ (Punct 62 j ∷ s)) ≡ true) g h)))

opened_seen : (c : ℕ) (cs : List ℕ) (i : Spacing) (ts : List Token) → c ≡ 60 → cs ≡ []
    → sees inside_stands ts ≡ true → sees impl_generics_stand (signs c cs i ++ ts) ≡ true
opened_seen c cs i ts e f h =
    subst (λ d. sees impl_generics_stand (signs d cs i ++ ts) ≡ true) (sym e)
    (subst (λ ds. sees impl_generics_stand (signs 60 ds i ++ ts) ≡ true) (sym f) h)

angles_seen : (x : Tree) (s : List Token) → Fits x angled_params → sees impl_generics_stand (flat x ++ s) ≡ true
angles_seen (Pair (AMark c cs i) (Pair p (AMark d ds j))) s f =
    subst (λ ts. sees impl_generics_stand ts ≡ true) (sym (append_assoc (signs c cs i) (flat p ++ signs d ds j) s))
    (opened_seen c cs i ((flat p ++ signs d ds j) ++ s) f.0.0 f.0.1
    (closed_seen d ds j p s f.1.1.0 f.1.1.1 f.1.1.2 (params_seen p s f.1.0)))
angles_seen (Pair (AMark c cs i) (Pair p _)) s f = absurd f.1.1
angles_seen (Pair (AMark c cs i) _) s f = absurd f.1
angles_seen (Pair _ y) s f = absurd f.0
angles_seen _ s f = absurd f

found_angles : Found angled_params [] (Sign 60 [] ∷ [])
unfolding skips
found_angles =
    (found_seq found_mark (maybe_seq (maybe_called (maybe_ref GenericParams refl)) found_mark (search)) tt)

pub step_impl_generics : Step ImplGenerics
unfolding table skips
step_impl_generics (First x) s f n w a =
    let (d, i) = found_angles.fine.by x s f.1 w tt in
    ((angles_seen x s f.1, d), inr i)
step_impl_generics (Second Nil) s f n w (inl a) = ((a.0, tt), inl refl)
step_impl_generics (Second Nil) s f n w (inr e) = cc e
step_impl_generics (Second _) s f n w a = absurd f.1
step_impl_generics _ s f n w a = absurd f

-- there are generics where there are some in what is kept
generic_in : (w : Tree) → Fits w (table ImplGenerics) → is_generic (kept w) ≡ is_generic w
unfolding table
generic_in (First x) f = refl
generic_in (Second x) f = refl
generic_in _ f = absurd f

pub generic_fits : (w : Tree) → Fits w (ref ImplGenerics) → is_generic (kept w) ≡ is_generic w
unfolding held
generic_fits (Node k x) f =
    subst (λ j. is_generic (kept (Node j x)) ≡ is_generic (Node j x)) (sym f.0)
    (generic_in x (subst (λ j. Fits x (table j)) f.0 f.3))
generic_fits _ f = absurd f
