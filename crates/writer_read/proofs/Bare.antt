-- What decides whether something is removed is seen in what was read.
use Rattle.std.proofs.Common.{◌≡◌, [], refl, sym, ap, ◌∙◌}
use Rattle.std.specs.Prelude.{Bool, true, false, cond, Option, Some, None}
use Rattle.syn_grammar.specs.Kind.{Kind, Position, Plain, Bounds, Lifetimes, GenericParams, WhereClause}
use Rattle.syn_grammar.specs.Kind.{Where, Generics, BoundsColon, LifetimeColon}
use Rattle.syn_grammar.specs.Name.{Part, same_part, the_clause, the_parameters, the_bounds}
use Rattle.syn_grammar.specs.Tree.{Tree, Nil, Pair, First, Second, End, Final, More, Group, Called, Node, Back}
use Rattle.syn_grammar.specs.Tree.{flat}
use Rattle.syn_grammar.specs.Part.{or_else, found, is_some, or_nil, has, the}
use Rattle.syn_grammar.specs.Kept.{forget, held, kept}
use Rattle.syn_grammar.specs.Tidy.{is_none, is_bare_clause, is_bare_where, is_bare_params, is_bare_generics}
use Rattle.syn_grammar.specs.Tidy.{is_bare_bounds, is_bare_colon, joined, those_then, others_of, lifetimes_first}
use Rattle.syn_grammar.specs.Tidy.{is_lifetime_param, removed_if, tidy}
use Rattle.syn_grammar.specs.Normal.{place_of, passed, normal_in}
use Rattle.writer_rules.specs.Said.{said}
use Rattle.laws_ranges.proofs.Dotted.{dotted_is}
use Rattle.writer_read.proofs.OfKinds.{node, removed, same_place}

-- a part of the normal form is the normal form of the part
abbrev made : Part → Option Tree → Option Tree
made n None = None
made n (Some x) = Some (normal_in (place_of n) (kept x))

made_else : (n : Part) (o q : Option Tree) → or_else (made n o) (made n q) ≡ made n (or_else o q)
made_else n None q = refl
made_else n (Some x) q = refl

made_cond : (b : Bool) (m n : Part) (x : Tree) → (b ≡ true → place_of m ≡ place_of n)
    → cond b (Some (normal_in (place_of m) (kept x))) None ≡ made n (cond b (Some x) None)
made_cond true m n x e = ap (λ p. Some (normal_in p (kept x))) (e refl)
made_cond false m n x e = refl

pub found_made : (n : Part) (p : Position) (x : Tree) → found n (normal_in p (kept x)) ≡ made n (found n x)
found_made n p (Called m x) = made_cond (same_part m n) m n x (same_place m n)
found_made n p (Pair x y) = ap (λ o. or_else o (found n (normal_in p (kept y)))) (found_made n p x)
    ∙ ap (or_else (made n (found n x))) (found_made n p y) ∙ made_else n (found n x) (found n y)
found_made n p (First x) = found_made n p x
found_made n p (Second x) = found_made n p x
found_made n p (Group d x) = found_made n p x
found_made n p (Back l k y) =
    dotted_is (λ z. found n (normal_in p z) ≡ None) (λ l k y. refl) (kept l) k (kept y)
found_made n p _ = refl

pub has_made : (n : Part) (p : Position) (x : Tree) → has n (normal_in p (kept x)) ≡ has n x
has_made n p x = ap is_some (found_made n p x) ∙ go (found n x)
  where
    go : (o : Option Tree) → is_some (made n o) ≡ is_some o
    go None = refl
    go (Some x) = refl

-- what is seen of a part is seen of its normal form
module _ (n : Part) (e : Tree → Bool) (f : e Nil ≡ false)
    (h : (x : Tree) → e (normal_in (place_of n) (kept x)) ≡ e x) where
  pub the_made : (p : Position) (x : Tree) → e (the n (normal_in p (kept x))) ≡ e (the n x)
  the_made p x = ap (λ o. e (or_nil o)) (found_made n p x) ∙ go (found n x)
    where
      go : (o : Option Tree) → e (or_nil (made n o)) ≡ e (or_nil o)
      go None = refl
      go (Some x) = h x

pub none_made : (p : Position) (x : Tree) → is_none (normal_in p (kept x)) ≡ is_none x
none_made p (Back l k y) = dotted_is (λ z. is_none (normal_in p z) ≡ false) (λ l k y. refl) (kept l) k (kept y)
none_made p _ = refl

-- a where clause
clause_made : (p : Position) (x : Tree) → is_bare_clause (normal_in p (kept x)) ≡ is_bare_clause x
unfolding held
clause_made p (Node WhereClause x) =
    the_made the_parameters is_none refl (none_made (place_of the_parameters)) (passed WhereClause p) x
clause_made p (Node _ x) = refl
clause_made p (Back l k y) =
    dotted_is (λ z. is_bare_clause (normal_in p z) ≡ false) (λ l k y. refl) (kept l) k (kept y)
clause_made p _ = refl

pub where_made : (p : Position) (x : Tree) → is_bare_where (normal_in p (kept x)) ≡ is_bare_where x
where_made p x = the_made the_clause is_bare_clause refl (clause_made (place_of the_clause)) p x

-- generics
cond_none : (b : Bool) (x y : Tree) → is_none x ≡ false → is_none y ≡ false → is_none (cond b x y) ≡ false
cond_none true x y f g = f
cond_none false x y f g = g

joined_none : (x o : Tree) → is_none (joined x o) ≡ false
joined_none x End = refl
joined_none x _ = refl

those_none : (q : Tree → Bool) (x o : Tree) → is_none o ≡ false → is_none (those_then q x o) ≡ false
those_none q (More x c spacing y) o f =
    cond_none (q x) (More x c spacing (those_then q y o)) (those_then q y o) refl (those_none q y o f)
those_none q (Final x) o f = cond_none (q x) (joined x o) o (joined_none x o) f
those_none q _ o f = f

firsts_none : (q : Tree → Bool) (x : Tree) → is_none (lifetimes_first q x) ≡ is_none x
firsts_none q (More x c spacing y) = go (q x)
  where
    go : (b : Bool) → is_none (cond b (More x c spacing (those_then q y (cond b (others_of q y)
        (More x c spacing (others_of q y))))) (those_then q y (cond b (others_of q y)
        (More x c spacing (others_of q y))))) ≡ false
    go true = refl
    go false = those_none q y (More x c spacing (others_of q y)) refl
firsts_none q (Final x) = go (q x)
  where
    go : (b : Bool) → is_none (cond b (joined x (cond b End (Final x))) (cond b End (Final x))) ≡ false
    go true = refl
    go false = refl
firsts_none q _ = refl

params_end : (x : Tree) → is_bare_params (Node GenericParams x) ≡ is_none x
params_end End = refl
params_end _ = refl

params_made : (p : Position) (x : Tree) → is_bare_params (normal_in p (kept x)) ≡ is_bare_params x
unfolding held
params_made p (Node GenericParams x) =
    params_end (lifetimes_first is_lifetime_param (normal_in (passed GenericParams p) (kept x)))
    ∙ firsts_none is_lifetime_param (normal_in (passed GenericParams p) (kept x))
    ∙ none_made (passed GenericParams p) x ∙ sym (params_end x)
params_made p (Node _ x) = refl
params_made p (Back l k y) =
    dotted_is (λ z. is_bare_params (normal_in p z) ≡ false) (λ l k y. refl) (kept l) k (kept y)
params_made p _ = refl

pub generics_made : (p : Position) (x : Tree) → is_bare_generics (normal_in p (kept x)) ≡ is_bare_generics x
generics_made p x = the_made the_parameters is_bare_params refl (params_made (place_of the_parameters)) p x

-- bounds
bounds_end : (x : Tree) → is_bare_bounds (Node Bounds x) ≡ is_none x
bounds_end End = refl
bounds_end _ = refl

lifetimes_end : (x : Tree) → is_bare_bounds (Node Lifetimes x) ≡ is_none x
lifetimes_end End = refl
lifetimes_end _ = refl

bounds_made : (p : Position) (x : Tree) → is_bare_bounds (normal_in p (kept x)) ≡ is_bare_bounds x
unfolding held
bounds_made p (Node Bounds x) = bounds_end (normal_in (passed Bounds p) (kept x)) ∙ none_made (passed Bounds p) x
    ∙ sym (bounds_end x)
bounds_made p (Node Lifetimes x) =
    lifetimes_end (normal_in (passed Lifetimes p) (kept x)) ∙ none_made (passed Lifetimes p) x ∙ sym (lifetimes_end x)
bounds_made p (Node _ x) = refl
bounds_made p (Back l k y) =
    dotted_is (λ z. is_bare_bounds (normal_in p z) ≡ false) (λ l k y. refl) (kept l) k (kept y)
bounds_made p _ = refl

pub colon_made : (p : Position) (x : Tree) → is_bare_colon (normal_in p (kept x)) ≡ is_bare_colon x
colon_made p x = the_made the_bounds is_bare_bounds refl (bounds_made (place_of the_bounds)) p x

-- so it is removed
module _ (k : Kind) (e : Tree → Bool) (f : (x : Tree) → tidy k x ≡ removed_if e x) (g : (x : Tree) → forget k x ≡ x)
    (i : (p : Position) → passed k p ≡ Plain)
    (h : (x : Tree) → e (normal_in Plain (kept x)) ≡ e x) where
  pub removed_said : (p : Position) (x : Tree) → said p (Node k x) ≡ cond (e x) [] (said Plain x)
  unfolding said
  removed_said p x =
      node k p x ∙ ap (λ q. flat (tidy k (normal_in q (forget k (kept x))))) (i p)
      ∙ ap (λ z. flat (tidy k (normal_in Plain z))) (g (kept x))
      ∙ ap flat (f (normal_in Plain (kept x))) ∙ removed e (normal_in Plain (kept x))
      ∙ ap (λ b. cond b [] (flat (normal_in Plain (kept x)))) (h x)

pub where_said : (p : Position) (x : Tree) → said p (Node Where x) ≡ cond (is_bare_where x) [] (said Plain x)
unfolding passed
where_said = removed_said Where is_bare_where (λ x. refl) (λ x. refl) (λ p. refl) (where_made Plain)

pub generics_said : (p : Position) (x : Tree)
    → said p (Node Generics x) ≡ cond (is_bare_generics x) [] (said Plain x)
unfolding passed
generics_said = removed_said Generics is_bare_generics (λ x. refl) (λ x. refl) (λ p. refl) (generics_made Plain)

pub bounds_said : (p : Position) (x : Tree) → said p (Node BoundsColon x) ≡ cond (is_bare_colon x) [] (said Plain x)
unfolding passed
bounds_said = removed_said BoundsColon is_bare_colon (λ x. refl) (λ x. refl) (λ p. refl) (colon_made Plain)

pub lifetimes_said : (p : Position) (x : Tree)
    → said p (Node LifetimeColon x) ≡ cond (is_bare_colon x) [] (said Plain x)
unfolding passed
lifetimes_said = removed_said LifetimeColon is_bare_colon (λ x. refl) (λ x. refl) (λ p. refl) (colon_made Plain)
