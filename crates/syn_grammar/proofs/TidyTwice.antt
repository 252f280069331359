-- What is tidy stays so, and parts in normal form make one.
use Rattle.std.proofs.Common.{◌≡◌, ℕ, refl, sym, ap, ◌∙◌}
use Rattle.std.specs.Prelude.{Bool, true, false, ◌&&◌, ◌||◌, not, cond, Some, None}
use Rattle.std.proofs.lemmas.Bool.{eqb-true}
use Rattle.rust_leaf.specs.declared.punct.Spacing.{Spacing}
use Rattle.rust_leaf.specs.declared.punct.Spacing.TheVariants.{Alone as Apart}
use Rattle.syn_grammar.specs.Kind.{Kind, Position, Plain, GenericParams, Where, Generics, ImplGenerics, BoundsColon}
use Rattle.syn_grammar.specs.Kind.{LifetimeColon, Arguments, ATypeAlias, AnImpl}
use Rattle.syn_grammar.specs.Name.{Part, number, same_part, the_arguments, the_value, the_generics, the_polarity}
use Rattle.syn_grammar.specs.Name.{the_self, the_first}
use Rattle.syn_grammar.specs.Tree.{Tree, Nil, Pair, First, Second, End, Final, More, Group, Called, Node}
use Rattle.syn_grammar.specs.Part.{or_else, found, is_some, or_nil, has, the, changed}
use Rattle.syn_grammar.specs.Tidy.{removed_if, is_bare_where, is_bare_colon, is_bare_generics, is_lifetime_param}
use Rattle.syn_grammar.specs.Tidy.{is_lifetime_argument, joined, those_then, others_of, lifetimes_first, is_absent}
use Rattle.syn_grammar.specs.Tidy.{moved, begins_bracketed, keeps_generics, without_generics, tidy_impl, tidy}
use Rattle.syn_grammar.specs.Normal.{place_of, passed, normal_in}

-- a tree in normal form, in a position
abbrev pub IsNormal : Position → Tree → Type 0
IsNormal q x = normal_in q x ≡ x

-- what is chosen twice by one test
removed_twice : (e : Tree → Bool) (x : Tree) (b : Bool) → e x ≡ b → e (Second Nil) ≡ false
    → removed_if e (removed_if e x) ≡ removed_if e x
removed_twice e x true h f = ap (removed_if e) (ap (λ b. cond b (Second Nil) x) h)
    ∙ ap (λ b. cond b (Second Nil) (Second Nil)) f ∙ sym (ap (λ b. cond b (Second Nil) x) h)
removed_twice e x false h f = ap (removed_if e) (ap (λ b. cond b (Second Nil) x) h)

module _ (p : Tree → Bool) where
  -- no element that passes
  HasNone : Tree → Type 0
  HasNone (More x c spacing y) = (p x ≡ false) × HasNone y
  HasNone (Final x) = p x ≡ false
  HasNone _ = Unit {0}

  cond_none : (b : Bool) (x y : Tree) → (b ≡ true → HasNone x) → (b ≡ false → HasNone y) → HasNone (cond b x y)
  cond_none true x y f g = f refl
  cond_none false x y f g = g refl

  others_none : (x : Tree) → HasNone (others_of p x)
  unfolding HasNone
  others_none (More x c spacing y) = cond_none (p x) (others_of p y) (More x c spacing (others_of p y))
      (λ h. others_none y) (λ h. (h, others_none y))
  others_none (Final x) = cond_none (p x) End (Final x) (λ h. tt) (λ h. h)
  others_none _ = tt

  -- of those alone nothing is put first
  none_then : (x o : Tree) → HasNone x → those_then p x o ≡ o
  unfolding HasNone
  none_then (More x c spacing y) o h = ap (λ b. cond b (More x c spacing (those_then p y o)) (those_then p y o)) h.0
      ∙ none_then y o h.1
  none_then (Final x) o h = ap (λ b. cond b (joined x o) o) h
  none_then _ o h = refl

  none_others : (x : Tree) → HasNone x → others_of p x ≡ x
  unfolding HasNone
  none_others (More x c spacing y) h = ap (λ b. cond b (others_of p y) (More x c spacing (others_of p y))) h.0
      ∙ ap (More x c spacing) (none_others y h.1)
  none_others (Final x) h = ap (λ b. cond b End (Final x)) h
  none_others _ h = refl

  by_test : (b : Bool) (x y z : Tree) (f : Tree → Tree) → (b ≡ true → f x ≡ z) → (b ≡ false → f y ≡ z)
      → f (cond b x y) ≡ z
  by_test true x y z f g h = g refl
  by_test false x y z f g h = h refl

  more_others : (x o : Tree) → p x ≡ true → HasNone o → others_of p (More x 44 Apart o) ≡ o
  more_others x o e h = ap (λ b. cond b (others_of p o) (More x 44 Apart (others_of p o))) e ∙ none_others o h

  more_again : (x o : Tree) → p x ≡ true → HasNone o → those_then p (More x 44 Apart o) o ≡ More x 44 Apart o
  more_again x o e h = ap (λ b. cond b (More x 44 Apart (those_then p o o)) (those_then p o o)) e
      ∙ ap (More x 44 Apart) (none_then o o h)

  joined_again : (x o : Tree) → p x ≡ true → HasNone o → those_then p (joined x o) o ≡ joined x o
  joined_again x End e h = ap (λ b. cond b (joined x End) End) e
  joined_again x o e h = more_again x o e h

  -- behind those that are put first stand the others
  joined_others : (x o : Tree) → p x ≡ true → HasNone o → others_of p (joined x o) ≡ o
  unfolding HasNone
  joined_others x End e h = ap (λ b. cond b End (Final x)) e
  joined_others x o e h = more_others x o e h

  those_others : (x o : Tree) → HasNone o → others_of p (those_then p x o) ≡ o
  those_others (More x c spacing y) o h =
      by_test (p x) (More x c spacing (those_then p y o)) (those_then p y o) o (others_of p)
      (λ e. ap (λ b. cond b (others_of p (those_then p y o)) (More x c spacing (others_of p (those_then p y o)))) e
      ∙ those_others y o h)
      (λ e. those_others y o h)
  those_others (Final x) o h = by_test (p x) (joined x o) o o (others_of p) (λ e. joined_others x o e h)
      (λ e. none_others o h)
  those_others _ o h = none_others o h

  again_more : (b : Bool) (x : Tree) (c : ℕ) (spacing : Spacing) (y o : Tree) → p x ≡ b → those_then p y o ≡ y
      → those_then p (cond b (More x c spacing y) y) o ≡ cond b (More x c spacing y) y
  again_more true x c spacing y o e f = ap (λ b. cond b (More x c spacing (those_then p y o)) (those_then p y o)) e
      ∙ ap (More x c spacing) f
  again_more false x c spacing y o e f = f

  again_final : (b : Bool) (x o : Tree) → p x ≡ b → HasNone o
      → those_then p (cond b (joined x o) o) o ≡ cond b (joined x o) o
  again_final true x o e h = joined_again x o e h
  again_final false x o e h = none_then o o h

  those_again : (x o : Tree) → HasNone o → those_then p (those_then p x o) o ≡ those_then p x o
  those_again (More x c spacing y) o h = again_more (p x) x c spacing (those_then p y o) o refl (those_again y o h)
  those_again (Final x) o h = again_final (p x) x o refl h
  those_again _ o h = none_then o o h

  first_twice : (x : Tree) → lifetimes_first p (lifetimes_first p x) ≡ lifetimes_first p x
  first_twice x =
      let o : Tree = others_of p x in
      ap (those_then p (those_then p x o)) (those_others x o (others_none x)) ∙ those_again x o (others_none x)

moved_at : (b : Bool) (w d : Tree) → is_absent w ≡ b
    → moved (cond b (Second (Pair d w)) (First (Pair w d))) ≡ cond b (Second (Pair d w)) (First (Pair w d))
moved_at true w d e = refl
moved_at false w d e = ap (λ b. cond b (Second (Pair d w)) (First (Pair w d))) e

moved_twice : (x : Tree) → moved (moved x) ≡ moved x
moved_twice (First (Pair w d)) = moved_at (is_absent w) w d refl
moved_twice _ = refl

-- a part that is changed twice
cond_same : (b : Bool) (f : Tree → Tree) (x : Tree) → f (f x) ≡ f x
    → cond b (f (cond b (f x) x)) (cond b (f x) x) ≡ cond b (f x) x
cond_same true f x e = e
cond_same false f x e = refl

pub changed_twice : (n : Part) (f : Tree → Tree) → ((x : Tree) → f (f x) ≡ f x) → (x : Tree)
    → changed n f (changed n f x) ≡ changed n f x
changed_twice n f h (Called m x) = ap (Called m) (cond_same (same_part m n) f x (h x))
changed_twice n f h (Pair x y) = ap (λ z. Pair z (changed n f (changed n f y))) (changed_twice n f h x)
    ∙ ap (Pair (changed n f x)) (changed_twice n f h y)
changed_twice n f h (First x) = ap First (changed_twice n f h x)
changed_twice n f h (Second x) = ap Second (changed_twice n f h x)
changed_twice n f h (Group d x) = ap (Group d) (changed_twice n f h x)
changed_twice n f h _ = refl

-- and what is found of another
one_number : (m n o : Part) → same_part m n ≡ true → same_part m o ≡ true → number n ≡ number o
unfolding same_part
one_number m n o e f = sym (eqb-true (number m) (number n) e) ∙ eqb-true (number m) (number o) f

found_changed : (n o : Part) (f : Tree → Tree) → (number n ≡ number o → ⊥) → (x : Tree)
    → found o (changed n f x) ≡ found o x
found_changed n o f h (Called m x) = go (same_part m n) (same_part m o) refl refl
  where
    go : (b c : Bool) → same_part m n ≡ b → same_part m o ≡ c
        → cond c (Some (cond b (f x) x)) None ≡ cond c (Some x) None
    go true true d e = absurd (h (one_number m n o d e))
    go true false d e = refl
    go false true d e = refl
    go false false d e = refl
found_changed n o f h (Pair x y) = ap (λ u. or_else u (found o (changed n f y))) (found_changed n o f h x)
    ∙ ap (or_else (found o x)) (found_changed n o f h y)
found_changed n o f h (First x) = found_changed n o f h x
found_changed n o f h (Second x) = found_changed n o f h x
found_changed n o f h (Group d x) = found_changed n o f h x
found_changed n o f h _ = refl

keeps_changed : (f : Tree → Tree) (x : Tree) → keeps_generics (changed the_generics f x) ≡ keeps_generics x
keeps_changed f x =
    let y : Tree = changed the_generics f x in
    ap (λ u. not (is_some u || has the_self y) && begins_bracketed (the the_first y))
    (found_changed the_generics the_polarity f (λ e. cc) x)
    ∙ ap (λ u. not (has the_polarity x || is_some u) && begins_bracketed (the the_first y))
    (found_changed the_generics the_self f (λ e. cc) x)
    ∙ ap (λ u. not (has the_polarity x || has the_self x) && begins_bracketed (or_nil u))
    (found_changed the_generics the_first f (λ e. cc) x)

without_twice : (x : Tree) → without_generics (without_generics x) ≡ without_generics x
without_twice (Node ImplGenerics g) = ap (Node ImplGenerics)
    (removed_twice is_bare_generics g (is_bare_generics g) refl refl)
without_twice _ = refl

impl_twice : (x : Tree) → tidy_impl (tidy_impl x) ≡ tidy_impl x
impl_twice x = go (keeps_generics x) refl
  where
    go : (b : Bool) → keeps_generics x ≡ b → tidy_impl (cond b x (changed the_generics without_generics x))
        ≡ cond b x (changed the_generics without_generics x)
    go true e = ap (λ b. cond b x (changed the_generics without_generics x)) e
    go false e =
        ap (λ b. cond b (changed the_generics without_generics x)
        (changed the_generics without_generics (changed the_generics without_generics x)))
        (keeps_changed without_generics x ∙ e)
        ∙ changed_twice the_generics without_generics without_twice x

-- and nothing is left to do
pub tidy_twice : (k : Kind) (x : Tree) → tidy k (tidy k x) ≡ tidy k x
tidy_twice Where x = removed_twice is_bare_where x (is_bare_where x) refl refl
tidy_twice Generics x = removed_twice is_bare_generics x (is_bare_generics x) refl refl
tidy_twice BoundsColon x = removed_twice is_bare_colon x (is_bare_colon x) refl refl
tidy_twice LifetimeColon x = removed_twice is_bare_colon x (is_bare_colon x) refl refl
tidy_twice GenericParams x = first_twice is_lifetime_param x
tidy_twice Arguments x = changed_twice the_arguments (lifetimes_first is_lifetime_argument)
    (first_twice is_lifetime_argument) x
tidy_twice (ATypeAlias p) x = changed_twice the_value moved moved_twice x
tidy_twice AnImpl x = impl_twice x
tidy_twice _ x = refl

module _ (q : Position) where
  normal_cond : (b : Bool) (x y : Tree) → IsNormal q x → IsNormal q y → IsNormal q (cond b x y)
  normal_cond true x y e f = e
  normal_cond false x y e f = f

  -- the parts of what is in normal form are
  pair_normal : (x y : Tree) → IsNormal q (Pair x y) → IsNormal q x × IsNormal q y
  pair_normal x y e = (cc, cc)

  more_normal : (x : Tree) (c : ℕ) (spacing : Spacing) (y : Tree) → IsNormal q (More x c spacing y)
      → IsNormal q x × (Apart ≡ spacing) × IsNormal q y
  more_normal x c spacing y e = (cc, cc, cc)

  final_normal : (x : Tree) → IsNormal q (Final x) → IsNormal q x
  final_normal x e = cc

  pub both_normal : (x y : Tree) → IsNormal q x → IsNormal q y → IsNormal q (Pair x y)
  both_normal x y e f = ap (λ z. Pair z (normal_in q y)) e ∙ ap (Pair x) f

  pub then_normal : (x : Tree) (c : ℕ) (spacing : Spacing) (y : Tree) → IsNormal q x → Apart ≡ spacing → IsNormal q y
      → IsNormal q (More x c spacing y)
  then_normal x c spacing y e f h = ap (λ z. More z c Apart (normal_in q y)) e ∙ ap (λ s. More x c s (normal_in q y)) f
      ∙ ap (More x c spacing) h

  joined_normal : (x y : Tree) → IsNormal q x → IsNormal q y → IsNormal q (joined x y)
  joined_normal x End e f = ap Final e
  joined_normal x _ e f = then_normal x 44 Apart _ e refl f

  module _ (p : Tree → Bool) where
    those_normal : (x o : Tree) → IsNormal q x → IsNormal q o → IsNormal q (those_then p x o)
    those_normal (More x c spacing y) o e f =
        let n = more_normal x c spacing y e in
        let others = those_normal y o n.2 f in
        normal_cond (p x) (More x c spacing (those_then p y o)) (those_then p y o)
        (then_normal x c spacing (those_then p y o) n.0 n.1 others) others
    those_normal (Final x) o e f = normal_cond (p x) (joined x o) o (joined_normal x o (final_normal x e) f) f
    those_normal _ o e f = f

    others_normal : (x : Tree) → IsNormal q x → IsNormal q (others_of p x)
    others_normal (More x c spacing y) e =
        let n = more_normal x c spacing y e in
        let others = others_normal y n.2 in
        normal_cond (p x) (others_of p y) (More x c spacing (others_of p y)) others
        (then_normal x c spacing (others_of p y) n.0 n.1 others)
    others_normal (Final x) e = normal_cond (p x) End (Final x) refl e
    others_normal _ e = e

    first_normal : (x : Tree) → IsNormal q x → IsNormal q (lifetimes_first p x)
    first_normal x e = those_normal x (others_of p x) e (others_normal x e)

  moved_normal : (x : Tree) → IsNormal q x → IsNormal q (moved x)
  moved_normal (First (Pair w d)) e =
      let f : IsNormal q (Pair w d) = cc in
      let n = pair_normal w d f in
      normal_cond (is_absent w) (Second (Pair d w)) (First (Pair w d)) (ap Second (both_normal d w n.1 n.0)) e
  moved_normal _ e = e

  removed_normal : (e : Tree → Bool) (x : Tree) → IsNormal q x → IsNormal q (removed_if e x)
  removed_normal e x n = normal_cond (e x) (Second Nil) x refl n

  without_normal : (x : Tree) → IsNormal q x → IsNormal q (without_generics x)
  unfolding passed
  without_normal (Node ImplGenerics g) e = let f : normal_in Plain g ≡ g = cc
      in ap (Node ImplGenerics) (by (is_bare_generics g) f)
    where
      by : (b : Bool) → normal_in Plain g ≡ g → normal_in Plain (cond b (Second Nil) g) ≡ cond b (Second Nil) g
      by true f = refl
      by false f = f
  without_normal _ e = e

-- a part in normal form changed to one in normal form
module _ (n : Part) (f : Tree → Tree) (h : (q : Position) (x : Tree) → IsNormal q x → IsNormal q (f x)) where
  pub changed_normal : (q : Position) (x : Tree) → IsNormal q x → IsNormal q (changed n f x)
  changed_normal q (Called m x) e = let i : normal_in (place_of m) x ≡ x = cc
      in ap (Called m) (normal_cond (place_of m) (same_part m n) (f x) x (h (place_of m) x i) i)
  changed_normal q (Pair x y) e = let i = pair_normal q x y e
      in both_normal q _ _ (changed_normal q x i.0) (changed_normal q y i.1)
  changed_normal q (First x) e = let i : normal_in q x ≡ x = cc in ap First (changed_normal q x i)
  changed_normal q (Second x) e = let i : normal_in q x ≡ x = cc in ap Second (changed_normal q x i)
  changed_normal q (Group d x) e = let i : normal_in q x ≡ x = cc in ap (Group d) (changed_normal q x i)
  changed_normal q _ e = e

-- what a kind's normal form makes of parts in normal form is in normal form
pub tidy_normal : (k : Kind) (q : Position) (x : Tree) → IsNormal q x → IsNormal q (tidy k x)
tidy_normal Where q x n = removed_normal q is_bare_where x n
tidy_normal Generics q x n = removed_normal q is_bare_generics x n
tidy_normal BoundsColon q x n = removed_normal q is_bare_colon x n
tidy_normal LifetimeColon q x n = removed_normal q is_bare_colon x n
tidy_normal GenericParams q x n = first_normal q is_lifetime_param x n
tidy_normal Arguments q x n = changed_normal the_arguments (lifetimes_first is_lifetime_argument)
    (λ r y. first_normal r is_lifetime_argument y) q x n
tidy_normal (ATypeAlias p) q x n = changed_normal the_value moved moved_normal q x n
tidy_normal AnImpl q x n = normal_cond q (keeps_generics x) x (changed the_generics without_generics x) n
    (changed_normal the_generics without_generics without_normal q x n)
tidy_normal _ q x n = n
