-- The steps of kinds where first tokens alone don't decide.
use Rattle.std.proofs.Common.{◌≡◌, ℕ, List, [], ◌∷◌, ◌++◌, refl, sym, subst, inl, inr}
use Rattle.std.specs.Prelude.{true, false, codes}
use Rattle.proc_macro2.specs.Token.{Token, Opens, Closes, Ident}
use Rattle.proc_macro2.specs.declared.delimiter.Delimiter.TheVariants.{Parenthesis}
use Rattle.syn_grammar.specs.Kind.{Bound, DynType, ImplType, WithoutPlus, InModule, Path, Visibility}
use Rattle.syn_grammar.specs.Tree.{Tree, AWord, Nil, Pair, First, Second, Group, flat}
use Rattle.syn_grammar.specs.Gram.{ref}
use Rattle.syn_grammar.specs.Look.{sees, ◌or◌}
use Rattle.syn_grammar.specs.Say.{◌▸◌, at, keyword, in_parentheses, one_word, optional}
use Rattle.syn_grammar.specs.Items.{restricted, restricted_in, restriction}
use Rattle.syn_grammar.specs.Ranks.{skips}
use Rattle.syn_grammar.specs.Table.{table}
use Rattle.syn_grammar.specs.Derives.{Derives}
use Rattle.laws_reread_kinds.proofs.Choices.{first_of, second_seen}
use Rattle.laws_reread_kinds.specs.Sees.{LacksAll}
use Rattle.laws_reread_kinds.proofs.Classes.{Opening, the_words, of_all}
use Rattle.laws_reread_kinds.proofs.Verdicts.{no_lifetime}
use Rattle.laws_reread_kinds.proofs.Fits.{Fits}
use Rattle.laws_reread_kinds.proofs.Readies.{Ready, Step}
use Rattle.laws_reread_kinds.proofs.Fine.{At, AtOrNone, words_are}
use Rattle.laws_reread_kinds.proofs.Parts.{Found, Maybe, none_never, found_before, found_called, found_ended}
use Rattle.laws_reread_kinds.proofs.Parts.{found_group}
use Rattle.laws_reread_kinds.proofs.Parts.{found_optional, found_ref, found_seq, found_text, found_words, maybe_step}

-- a visibility's restriction, by the word in its parentheses

abbrev pub whose : List (List ℕ)
whose = codes "crate" ∷ codes "self" ∷ codes "super" ∷ []

pub in_seen : (x : Tree) (s : List Token) → Fits x (in_parentheses (keyword "in" ▸ ref (Path InModule)))
    → sees restricted_in (flat x ++ s) ≡ true
in_seen (Group d (Pair (AWord cs) y)) s f =
    subst (λ e. sees restricted_in (Opens e ∷ Ident cs ∷ (flat y ++ Closes d ∷ []) ++ s) ≡ true) (sym f.0)
    (simp f.1.0 refl)
in_seen (Group d (Pair _ y)) s f = absurd f.1.0
in_seen (Group d _) s f = absurd f.1
in_seen _ s f = absurd f

pub whose_seen : (x : Tree) (s : List Token) → Fits x (in_parentheses (one_word whose))
    → (sees restricted_in (flat x ++ s) ≡ false) × (sees restricted (flat x ++ s) ≡ true)
whose_seen (Group d (AWord cs)) s f = (
  subst (λ e. sees restricted_in (Opens e ∷ Ident cs ∷ Closes d ∷ s) ≡ false) (sym f.0)
      (of_all (λ ts. sees restricted_in (Opens Parenthesis ∷ ts) ≡ false) (the_words whose) (Ident cs ∷ Closes d ∷ s)
      (λ us. refl, (λ us. refl, (λ us. refl, tt))) (words_are whose cs (Closes d ∷ s) f.1)),
  subst (λ e. sees restricted (Opens e ∷ Ident cs ∷ Closes d ∷ s) ≡ true) (sym f.0) (simp f.1 refl),
)
whose_seen (Group d _) s f = absurd f.1
whose_seen _ s f = absurd f

pub found_restriction : Found restriction [] (Opening Parenthesis ∷ [])
unfolding skips
found_restriction = record { fine = record { by = go } }
  where
    go : (x : Tree) (s : List Token) → Fits x restriction → Ready x → LacksAll [] s
        → Derives x restriction s × At (Opening Parenthesis ∷ []) x s
    go (First x) s d w a =
        let (t, i) = (found_group (found_ended
        (found_seq (found_text "in") (found_ref (Path InModule) refl) tt) (refl, tt))).fine.by x s d.1 w tt in
        ((in_seen x s d.1, t), i)
    go (Second x) s d w a =
        let (t, i) = (found_group (found_ended (found_words whose) tt)).fine.by x s d.1 w tt in
        (((whose_seen x s d.1).0, t), i)
    go _ s d w a = absurd d

pub restriction_seen : (x : Tree) (s : List Token) → Fits x restriction
    → sees (restricted or restricted_in) (flat x ++ s) ≡ true
restriction_seen (First x) s f = second_seen (restricted (flat x ++ s)) (restricted_in (flat x ++ s)) (in_seen x s f.1)
restriction_seen (Second x) s f =
    first_of (restricted (flat x ++ s)) (restricted_in (flat x ++ s)) (whose_seen x s f.1).1
restriction_seen _ s f = absurd f

maybe_restriction : Maybe (optional (restricted or restricted_in) restriction) ((restricted or restricted_in) ∷ [])
    (Opening Parenthesis ∷ [])
maybe_restriction = record { fine = record { by = go } }
  where
    go : (x : Tree) (s : List Token) → Fits x (optional (restricted or restricted_in) restriction) → Ready x
        → LacksAll ((restricted or restricted_in) ∷ []) s
        → Derives x (optional (restricted or restricted_in) restriction) s × AtOrNone (Opening Parenthesis ∷ []) x s
    go (First x) s d w a =
        let (t, i) = found_restriction.fine.by x s d.1 w tt in
        ((restriction_seen x s d.1, t), inr i)
    go (Second Nil) s d w a = ((a.0, tt), inl refl)
    go (Second _) s d w a = absurd d.1
    go _ s d w a = absurd d

pub step_visibility : Step Visibility
unfolding table skips
step_visibility =
    maybe_step Visibility refl refl (found_optional (at "pub")
    (found_before (found_called (found_text "pub")) maybe_restriction tt (λ s a. a.1)) (λ us. refl, tt))

pub step_dyn_alone : Step (DynType WithoutPlus)
unfolding table skips
step_dyn_alone (Pair u (Second b)) s f n w a =
    let (t, i) = (found_seq (found_text "dyn") (found_ref Bound refl) tt).fine.by (Pair u b) s (f.0, f.1.1) w a in
    ((t.0, (no_lifetime b s t.1 n, t.1)), i)
step_dyn_alone (Pair u (First b)) s f n w a = absurd (none_never b f.1.1)
step_dyn_alone (Pair u _) s f n w a = absurd f.1
step_dyn_alone _ s f n w a = absurd f

pub step_impl_alone : Step (ImplType WithoutPlus)
unfolding table skips
step_impl_alone (Pair u (Second b)) s f n w a =
    let (t, i) = (found_seq (found_text "impl") (found_ref Bound refl) tt).fine.by (Pair u b) s (f.0, f.1.1) w a in
    ((t.0, (no_lifetime b s t.1 n, t.1)), i)
step_impl_alone (Pair u (First b)) s f n w a = absurd (none_never b f.1.1)
step_impl_alone (Pair u _) s f n w a = absurd f.1
step_impl_alone _ s f n w a = absurd f
