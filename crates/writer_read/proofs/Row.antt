-- What is written of a list whose lifetimes come first.
use Rattle.std.proofs.Common.{◌≡◌, ℕ, List, [], ◌∷◌, ◌++◌, refl, sym, ap, ◌∙◌, append_assoc}
use Rattle.std.specs.Prelude.{Bool, true, false, not, ◌||◌, cond}
use Rattle.std.proofs.lemmas.List.{append-nil}
use Rattle.proc_macro2.specs.Token.{Token, Punct}
use Rattle.rust_leaf.specs.declared.punct.Spacing.TheVariants.{Alone as Apart}
use Rattle.rust_leaf.specs.declared.punct.Spacing.{Spacing}
use Rattle.syn_grammar.specs.Kind.{Position, Plain, GenericParam, GenericParams, Arguments}
use Rattle.syn_grammar.specs.Name.{same_part, the_lifetime, the_arguments}
use Rattle.syn_grammar.specs.Tree.{Tree, AMark, Nil, Pair, First, Second, End, Final, More, Called, Node, Back}
use Rattle.syn_grammar.specs.Tree.{marks, flat}
use Rattle.syn_grammar.specs.Kept.{held, kept}
use Rattle.syn_grammar.specs.Tidy.{is_none, joined, those_then, others_of, lifetimes_first, is_lifetime_param}
use Rattle.syn_grammar.specs.Tidy.{is_lifetime_argument}
use Rattle.syn_grammar.specs.Normal.{place_of, passed, normal_in}
use Rattle.writer_rules.specs.Said.{said}
use Rattle.writer_rules.specs.Firsts.{has_other, those_said, others_said, firsts_said}
use Rattle.laws_ranges.proofs.Dotted.{dotted_is}
use Rattle.writer_read.proofs.OfKinds.{node}
use Rattle.writer_read.proofs.Bare.{has_made}

module _ (p : Position) (q r : Tree → Bool) (h : (x : Tree) → r (normal_in p (kept x)) ≡ q x) where
  joined_said : (z o : Tree)
      → flat (joined z o) ≡ (flat z ++ cond (not (is_none o)) (Punct 44 Apart ∷ []) []) ++ flat o
  joined_said z End = sym (append-nil (flat z ++ []) ∙ append-nil (flat z))
  joined_said z o = sym (append_assoc (flat z) (Punct 44 Apart ∷ []) (flat o))

  more_those : (b : Bool) (z : Tree) (c : ℕ) (y : Tree) (ts : List Token) (o : List Token) → flat y ≡ ts ++ o
      → flat (cond b (More z c Apart y) y) ≡ cond b (flat z ++ Punct c Apart ∷ ts) ts ++ o
  more_those true z c y ts o e =
      ap (λ us. flat z ++ Punct c Apart ∷ us) e ∙ sym (append_assoc (flat z) (Punct c Apart ∷ ts) o)
  more_those false z c y ts o e = e

  final_those : (b : Bool) (z o : Tree)
      → flat (cond b (joined z o) o)
      ≡ cond b (flat z ++ cond (not (is_none o)) (Punct 44 Apart ∷ []) []) [] ++ flat o
  final_those true z o = joined_said z o
  final_those false z o = refl

  those : (x o : Tree)
      → flat (those_then r (normal_in p (kept x)) o) ≡ those_said p q (not (is_none o)) x ++ flat o
  unfolding said
  those (More x c spacing y) o =
      ap (λ b. flat (cond b (More (normal_in p (kept x)) c Apart (those_then r (normal_in p (kept y)) o))
      (those_then r (normal_in p (kept y)) o))) (h x)
      ∙ more_those (q x) (normal_in p (kept x)) c (those_then r (normal_in p (kept y)) o)
      (those_said p q (not (is_none o)) y) (flat o) (those y o)
  those (Final x) o =
      ap (λ b. flat (cond b (joined (normal_in p (kept x)) o) o)) (h x) ∙ final_those (q x) (normal_in p (kept x)) o
  those (Back l k y) o =
      dotted_is (λ z. flat (those_then r (normal_in p z) o) ≡ flat o) (λ l k y. refl) (kept l) k (kept y)
  those _ o = refl

  more_others : (b : Bool) (z : Tree) (c : ℕ) (y : Tree) (ts : List Token) → flat y ≡ ts
      → flat (cond b y (More z c Apart y)) ≡ cond b ts (flat z ++ Punct c Apart ∷ ts)
  more_others true z c y ts e = e
  more_others false z c y ts e = ap (λ us. flat z ++ Punct c Apart ∷ us) e

  final_others : (b : Bool) (z : Tree) → flat (cond b End (Final z)) ≡ cond b [] (flat z)
  final_others true z = refl
  final_others false z = refl

  others : (x : Tree) → flat (others_of r (normal_in p (kept x))) ≡ others_said p q x
  unfolding said
  others (More x c spacing y) =
      ap (λ b. flat (cond b (others_of r (normal_in p (kept y)))
      (More (normal_in p (kept x)) c Apart (others_of r (normal_in p (kept y)))))) (h x)
      ∙ more_others (q x) (normal_in p (kept x)) c (others_of r (normal_in p (kept y))) (others_said p q y) (others y)
  others (Final x) =
      ap (λ b. flat (cond b End (Final (normal_in p (kept x))))) (h x) ∙ final_others (q x) (normal_in p (kept x))
  others (Back l k y) =
      dotted_is (λ z. flat (others_of r (normal_in p z)) ≡ flat (normal_in p z)) (λ l k y. refl) (kept l) k (kept y)
  others _ = refl

  more_flag : (b c : Bool) (z : Tree) (d : ℕ) (y : Tree) → not (is_none y) ≡ c
      → not (is_none (cond b y (More z d Apart y))) ≡ (not b || c)
  more_flag true c z d y e = e
  more_flag false c z d y e = refl

  final_flag : (b : Bool) (z : Tree) → not (is_none (cond b End (Final z))) ≡ not b
  final_flag true z = refl
  final_flag false z = refl

  flag : (x : Tree) → not (is_none (others_of r (normal_in p (kept x)))) ≡ has_other q x
  flag (More x c spacing y) =
      ap (λ b. not (is_none (cond b (others_of r (normal_in p (kept y)))
      (More (normal_in p (kept x)) c Apart (others_of r (normal_in p (kept y))))))) (h x)
      ∙ more_flag (q x) (has_other q y) (normal_in p (kept x)) c (others_of r (normal_in p (kept y))) (flag y)
  flag (Final x) =
      ap (λ b. not (is_none (cond b End (Final (normal_in p (kept x)))))) (h x)
      ∙ final_flag (q x) (normal_in p (kept x))
  flag (Back l k y) =
      dotted_is (λ z. not (is_none (others_of r (normal_in p z))) ≡ true) (λ l k y. refl) (kept l) k (kept y)
  flag _ = refl

  pub firsts : (x : Tree) → flat (lifetimes_first r (normal_in p (kept x))) ≡ firsts_said p q x
  firsts x =
      let o : Tree = others_of r (normal_in p (kept x)) in
      those x o ∙ ap (λ b. those_said p q b x ++ flat o) (flag x)
      ∙ ap (λ ts. those_said p q (has_other q x) x ++ ts) (others x)

param_made : (x : Tree) → is_lifetime_param (normal_in Plain (kept x)) ≡ is_lifetime_param x
unfolding held passed
param_made (Node GenericParam x) = has_made the_lifetime Plain x
param_made (Node _ x) = refl
param_made (Back l k y) =
    dotted_is (λ z. is_lifetime_param (normal_in Plain z) ≡ false) (λ l k y. refl) (kept l) k (kept y)
param_made _ = refl

pub params_said : (p : Position) (x : Tree)
    → said p (Node GenericParams x) ≡ firsts_said Plain is_lifetime_param x
unfolding passed
params_said p x = node GenericParams p x ∙ firsts Plain is_lifetime_param is_lifetime_param param_made x

-- arguments in angles
pub arguments_said : (p : Position) (c d : ℕ) (cs ds : List ℕ) (i j : Spacing) (x : Tree)
    → said p
    (Node Arguments (Pair (Second Nil) (Pair (AMark c cs i) (Pair (Called the_arguments x) (AMark d ds j)))))
    ≡ marks c cs Apart ++ (firsts_said Plain (λ y. is_lifetime_argument (normal_in Plain (kept y))) x
    ++ marks d ds Apart)
unfolding passed same_part place_of
arguments_said p c d cs ds i j x =
    node Arguments p (Pair (Second Nil) (Pair (AMark c cs i) (Pair (Called the_arguments x) (AMark d ds j))))
    ∙ ap (λ ts. marks c cs Apart ++ (ts ++ marks d ds Apart))
    (firsts Plain (λ y. is_lifetime_argument (normal_in Plain (kept y))) is_lifetime_argument (λ y. refl) x)

pub turbofish_said : (p : Position) (b c d : ℕ) (bs cs ds : List ℕ) (h i j : Spacing) (x : Tree)
    → said p
    (Node Arguments (Pair (First (AMark b bs h)) (Pair (AMark c cs i) (Pair (Called the_arguments x) (AMark d ds j)))))
    ≡ marks b bs Apart ++ (marks c cs Apart
    ++ (firsts_said Plain (λ y. is_lifetime_argument (normal_in Plain (kept y))) x ++ marks d ds Apart))
unfolding passed same_part place_of
turbofish_said p b c d bs cs ds h i j x =
    node Arguments p
    (Pair (First (AMark b bs h)) (Pair (AMark c cs i) (Pair (Called the_arguments x) (AMark d ds j))))
    ∙ ap (λ ts. marks b bs Apart ++ (marks c cs Apart ++ (ts ++ marks d ds Apart)))
    (firsts Plain (λ y. is_lifetime_argument (normal_in Plain (kept y))) is_lifetime_argument (λ y. refl) x)
