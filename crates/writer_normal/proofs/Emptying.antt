-- What is removed of a kind's parts is seen before they are in normal form.
use Rattle.std.specs.Prelude.{◌≡◌, ℕ, ◌≤◌, Bool, true, false, ◌&&◌, ◌||◌, not, cond, List, Option, Some, None, refl}
use Rattle.std.proofs.Common.{ap, arith, ◌∙◌, sym}
use Rattle.syn_grammar.specs.Kind.{Kind, Position, AtType, AType, AnyPath, QualifiedPath, Path, Segments}
use Rattle.syn_grammar.specs.Kind.{Bounds, Lifetimes, GenericParams, WhereClause, Where, Generics, ImplGenerics}
use Rattle.syn_grammar.specs.Kind.{BoundsColon, LifetimeColon, AnImpl}
use Rattle.syn_grammar.specs.Name.{Part, same_part, the_clause, the_parameters, the_bounds, the_generics, the_polarity}
use Rattle.syn_grammar.specs.Name.{the_self, the_first}
use Rattle.syn_grammar.specs.Normal.{normal_in, passed, place_of}
use Rattle.syn_grammar.specs.Part.{changed, choice, found, has, is_some, or_else, or_nil, the}
use Rattle.syn_grammar.specs.Tidy.{begins_bracketed, is_bare_bounds, is_bare_clause, is_bare_colon, is_bare_generics}
use Rattle.syn_grammar.specs.Tidy.{is_bare_params, is_bare_where, is_bracketed, is_ident_type, is_lifetime_param}
use Rattle.syn_grammar.specs.Tidy.{is_lone_path, is_lone_segment, is_none, joined, keeps_generics, lifetimes_first}
use Rattle.syn_grammar.specs.Tidy.{others_of, removed_if, those_then, tidy, tidy_impl, without_generics}
use Rattle.syn_grammar.specs.Tree as t
use Rattle.syn_grammar.specs.Tree.{Tree}
use Rattle.reader_tree.specs.Size.{node_count}
use Rattle.writer_read.proofs.OfKinds.{same_place}
use Rattle.writer_normal.specs.Changes.{emptied, ordered}
use Rattle.writer_normal.specs.Separators.{is_mixed}
use Rattle.writer_normal.proofs.Mixing.{mixed_ordered}

-- a part of the normal form is the normal form of the part
abbrev made : Part → Option Tree → Option Tree
made n None = None
made n (Some x) = Some (normal_in (place_of n) x)

made_else : (n : Part) (o q : Option Tree) → or_else (made n o) (made n q) ≡ made n (or_else o q)
made_else n None q = refl
made_else n (Some x) q = refl

made_cond : (b : Bool) (m n : Part) (x : Tree) → (b ≡ true → place_of m ≡ place_of n)
    → cond b (Some (normal_in (place_of m) x)) None ≡ made n (cond b (Some x) None)
made_cond true m n x e = ap (λ p. Some (normal_in p x)) (e refl)
made_cond false m n x e = refl

found_made : (n : Part) (p : Position) (x : Tree) → found n (normal_in p x) ≡ made n (found n x)
found_made n p (t.Called m x) = made_cond (same_part m n) m n x (same_place m n)
found_made n p (t.Pair x y) =
    ap (λ o. or_else o (found n (normal_in p y))) (found_made n p x)
    ∙ ap (or_else (made n (found n x))) (found_made n p y) ∙ made_else n (found n x) (found n y)
found_made n p (t.First x) = found_made n p x
found_made n p (t.Second x) = found_made n p x
found_made n p (t.Group d x) = found_made n p x
found_made n p _ = refl

has_made : (n : Part) (p : Position) (x : Tree) → has n (normal_in p x) ≡ has n x
has_made n p x = ap is_some (found_made n p x) ∙ go (found n x)
  where
    go : (o : Option Tree) → is_some (made n o) ≡ is_some o
    go None = refl
    go (Some x) = refl

-- what is seen of a part is seen of its normal form
module _ (n : Part) (e : Tree → Bool) (f : e t.Nil ≡ false) (h : (x : Tree) → e (normal_in (place_of n) x) ≡ e x) where
  the_made : (p : Position) (x : Tree) → e (the n (normal_in p x)) ≡ e (the n x)
  the_made p x = ap (λ o. e (or_nil o)) (found_made n p x) ∙ go (found n x)
    where
      go : (o : Option Tree) → e (or_nil (made n o)) ≡ e (or_nil o)
      go None = refl
      go (Some x) = h x

none_made : (p : Position) (x : Tree) → is_none (normal_in p x) ≡ is_none x
none_made p t.End = refl
none_made p _ = refl

-- a where clause
clause_made : (p : Position) (x : Tree) → is_bare_clause (normal_in p x) ≡ is_bare_clause x
clause_made p (t.Node WhereClause x) =
    the_made the_parameters is_none refl (none_made (place_of the_parameters)) (passed WhereClause p) x
clause_made p (t.Node _ x) = refl
clause_made p _ = refl

where_made : (p : Position) (x : Tree) → is_bare_where (normal_in p x) ≡ is_bare_where x
where_made p x = the_made the_clause is_bare_clause refl (clause_made (place_of the_clause)) p x

-- generics
cond_none : (b : Bool) (x y : Tree) → is_none x ≡ false → is_none y ≡ false → is_none (cond b x y) ≡ false
cond_none true x y f g = f
cond_none false x y f g = g

joined_none : (x o : Tree) → is_none (joined x o) ≡ false
joined_none x t.End = refl
joined_none x _ = refl

those_none : (q : Tree → Bool) (x o : Tree) → is_none o ≡ false → is_none (those_then q x o) ≡ false
those_none q (t.More x c spacing y) o f =
    cond_none (q x) (t.More x c spacing (those_then q y o)) (those_then q y o) refl (those_none q y o f)
those_none q (t.Final x) o f = cond_none (q x) (joined x o) o (joined_none x o) f
those_none q _ o f = f

firsts_none : (q : Tree → Bool) (x : Tree) → is_none (lifetimes_first q x) ≡ is_none x
firsts_none q (t.More x c spacing y) = go (q x)
  where
    go : (b : Bool) → is_none (cond b (t.More x c spacing (those_then q y (cond b (others_of q y)
        (t.More x c spacing (others_of q y))))) (those_then q y (cond b (others_of q y)
        (t.More x c spacing (others_of q y))))) ≡ false
    go true = refl
    go false = those_none q y (t.More x c spacing (others_of q y)) refl
firsts_none q (t.Final x) = go (q x)
  where
    go : (b : Bool) → is_none (cond b (joined x (cond b t.End (t.Final x))) (cond b t.End (t.Final x))) ≡ false
    go true = refl
    go false = refl
firsts_none q _ = refl

params_end : (x : Tree) → is_bare_params (t.Node GenericParams x) ≡ is_none x
params_end t.End = refl
params_end _ = refl

params_made : (p : Position) (x : Tree) → is_bare_params (normal_in p x) ≡ is_bare_params x
params_made p (t.Node GenericParams x) =
    params_end (lifetimes_first is_lifetime_param (normal_in (passed GenericParams p) x))
    ∙ firsts_none is_lifetime_param (normal_in (passed GenericParams p) x)
    ∙ none_made (passed GenericParams p) x ∙ sym (params_end x)
params_made p (t.Node _ x) = refl
params_made p _ = refl

generics_made : (p : Position) (x : Tree) → is_bare_generics (normal_in p x) ≡ is_bare_generics x
generics_made p x = the_made the_parameters is_bare_params refl (params_made (place_of the_parameters)) p x

-- bounds
bounds_end : (x : Tree) → is_bare_bounds (t.Node Bounds x) ≡ is_none x
bounds_end t.End = refl
bounds_end _ = refl

lifetimes_end : (x : Tree) → is_bare_bounds (t.Node Lifetimes x) ≡ is_none x
lifetimes_end t.End = refl
lifetimes_end _ = refl

bounds_made : (p : Position) (x : Tree) → is_bare_bounds (normal_in p x) ≡ is_bare_bounds x
bounds_made p (t.Node Bounds x) =
    bounds_end (normal_in (passed Bounds p) x) ∙ none_made (passed Bounds p) x ∙ sym (bounds_end x)
bounds_made p (t.Node Lifetimes x) =
    lifetimes_end (normal_in (passed Lifetimes p) x) ∙ none_made (passed Lifetimes p) x ∙ sym (lifetimes_end x)
bounds_made p (t.Node _ x) = refl
bounds_made p _ = refl

colon_made : (p : Position) (x : Tree) → is_bare_colon (normal_in p x) ≡ is_bare_colon x
colon_made p x = the_made the_bounds is_bare_bounds refl (bounds_made (place_of the_bounds)) p x

-- what is seen of each tree is seen of what was chosen
module _ (e : Tree → Bool) (h : (p : Position) (x : Tree) → e (normal_in p x) ≡ e x) where
  choice_made : (p : Position) (x : Tree) → e (choice (normal_in p x)) ≡ e (choice x)
  choice_made p (t.First x) = choice_made p x
  choice_made p (t.Second x) = choice_made p x
  choice_made p x = h p x

-- one name, as segments
abbrev segment : List ℕ → Tree → Bool
segment cs x = is_lone_segment (t.Node (Segments AtType) (t.Second (t.Pair (t.AWord cs) x)))

segment_two : (cs : List ℕ) (p : Position) (x : Tree)
    → segment cs (t.Second (normal_in p x)) ≡ segment cs (t.Second x)
segment_two cs p (t.Second (t.Second x)) = refl
segment_two cs p (t.Second _) = refl
segment_two cs p _ = refl

segment_one : (cs : List ℕ) (p : Position) (x : Tree) → segment cs (normal_in p x) ≡ segment cs x
segment_one cs p (t.Second x) = segment_two cs p x
segment_one cs p _ = refl

segments_made : (p : Position) (x : Tree)
    → is_lone_segment (t.Node (Segments AtType) (normal_in p x)) ≡ is_lone_segment (t.Node (Segments AtType) x)
segments_made p (t.Second (t.Pair (t.AWord cs) x)) = segment_one cs p x
segments_made p (t.Second (t.Pair _ x)) = refl
segments_made p (t.Second _) = refl
segments_made p _ = refl

segment_made : (p : Position) (x : Tree) → is_lone_segment (normal_in p x) ≡ is_lone_segment x
segment_made p (t.Node (Segments s) x) = segments_made (passed (Segments s) p) x
segment_made p (t.Node _ x) = refl
segment_made p _ = refl

-- a path of one name
abbrev path : Tree → Bool
path x = is_lone_path (t.Node (AnyPath AtType) x)

own_path : (p : Position) (x : Tree)
    → path (t.Second (t.Node (Path AtType) (normal_in p x))) ≡ path (t.Second (t.Node (Path AtType) x))
own_path p (t.Pair (t.Second z) x) = segment_made p x
own_path p (t.Pair _ x) = refl
own_path p _ = refl

any_path : (p : Position) (x : Tree) → path (normal_in p x) ≡ path x
any_path p (t.Second (t.Node (Path s) x)) = own_path (passed (Path s) p) x
any_path p (t.Second (t.Node _ x)) = refl
any_path p (t.Second _) = refl
any_path p _ = refl

path_made : (p : Position) (x : Tree) → is_lone_path (normal_in p x) ≡ is_lone_path x
path_made p (t.Node (AnyPath s) x) = any_path (passed (AnyPath s) p) x
path_made p (t.Node _ x) = refl
path_made p _ = refl

-- a type that is one
type_made : (p : Position) (x : Tree) → is_ident_type (normal_in p x) ≡ is_ident_type x
type_made p (t.Node (AType q) x) = choice_made is_lone_path path_made (passed (AType q) p) x
type_made p (t.Node _ x) = refl
type_made p _ = refl

-- a path that begins with it in brackets
abbrev qualified : Tree → Bool
qualified x = is_bracketed (t.Node (AnyPath AtType) (t.First (t.Node (QualifiedPath AtType) x)))

own_bracketed : (p : Position) (x : Tree) → qualified (normal_in p x) ≡ qualified x
own_bracketed p (t.Pair l (t.Pair x (t.Pair (t.Second z) y))) = type_made p x
own_bracketed p (t.Pair l (t.Pair x (t.Pair _ y))) = refl
own_bracketed p (t.Pair l (t.Pair x _)) = refl
own_bracketed p (t.Pair l _) = refl
own_bracketed p _ = refl

chosen_made : (p : Position) (x : Tree)
    → is_bracketed (t.Node (AnyPath AtType) (normal_in p x)) ≡ is_bracketed (t.Node (AnyPath AtType) x)
chosen_made p (t.First (t.Node (QualifiedPath s) x)) = own_bracketed (passed (QualifiedPath s) p) x
chosen_made p (t.First (t.Node _ x)) = refl
chosen_made p (t.First _) = refl
chosen_made p _ = refl

bracketed_made : (p : Position) (x : Tree) → is_bracketed (normal_in p x) ≡ is_bracketed x
bracketed_made p (t.Node (AnyPath s) x) = chosen_made (passed (AnyPath s) p) x
bracketed_made p (t.Node _ x) = refl
bracketed_made p _ = refl

begins_made : (p : Position) (x : Tree) → begins_bracketed (normal_in p x) ≡ begins_bracketed x
begins_made p (t.Node (AType q) x) = choice_made is_bracketed bracketed_made (passed (AType q) p) x
begins_made p (t.Node _ x) = refl
begins_made p _ = refl

keeps_made : (p : Position) (x : Tree) → keeps_generics (normal_in p x) ≡ keeps_generics x
keeps_made p x =
    let y : Tree = normal_in p x in
    ap (λ b. not (b || has the_self y) && begins_bracketed (the the_first y)) (has_made the_polarity p x)
    ∙ ap (λ b. not (has the_polarity x || b) && begins_bracketed (the the_first y)) (has_made the_self p x)
    ∙ ap (λ b. not (has the_polarity x || has the_self x) && b)
    (the_made the_first begins_bracketed refl (begins_made (place_of the_first)) p x)

-- the normal form of what is left is what is left of the normal form
removed_made : (e : Tree → Bool) (p : Position) (x : Tree) → e (normal_in p x) ≡ e x
    → normal_in p (removed_if e x) ≡ removed_if e (normal_in p x)
removed_made e p x h = go (e x) ∙ ap (λ b. cond b (t.Second t.Nil) (normal_in p x)) (sym h)
  where
    go : (b : Bool) → normal_in p (cond b (t.Second t.Nil) x) ≡ cond b (t.Second t.Nil) (normal_in p x)
    go true = refl
    go false = refl

without_made : (p : Position) (x : Tree) → normal_in p (without_generics x) ≡ without_generics (normal_in p x)
without_made p (t.Node ImplGenerics x) =
    let q : Position = passed ImplGenerics p in
    ap (t.Node ImplGenerics) (removed_made is_bare_generics q x (generics_made q x))
without_made p (t.Node _ x) = refl
without_made p _ = refl

cond_made : (b : Bool) (p : Position) (f : Tree → Tree) (x : Tree) → normal_in p (f x) ≡ f (normal_in p x)
    → normal_in p (cond b (f x) x) ≡ cond b (f (normal_in p x)) (normal_in p x)
cond_made true p f x h = h
cond_made false p f x h = refl

module _ (n : Part) (f : Tree → Tree) (h : (p : Position) (x : Tree) → normal_in p (f x) ≡ f (normal_in p x)) where
  changed_made : (p : Position) (x : Tree) → normal_in p (changed n f x) ≡ changed n f (normal_in p x)
  changed_made p (t.Called m x) = ap (t.Called m) (cond_made (same_part m n) (place_of m) f x (h (place_of m) x))
  changed_made p (t.Pair x y) =
      ap (λ z. t.Pair z (normal_in p (changed n f y))) (changed_made p x)
      ∙ ap (t.Pair (changed n f (normal_in p x))) (changed_made p y)
  changed_made p (t.First x) = ap t.First (changed_made p x)
  changed_made p (t.Second x) = ap t.Second (changed_made p x)
  changed_made p (t.Group d x) = ap (t.Group d) (changed_made p x)
  changed_made p _ = refl

impl_made : (p : Position) (x : Tree) → normal_in p (tidy_impl x) ≡ tidy_impl (normal_in p x)
impl_made p x =
    go (keeps_generics x)
    ∙ ap (λ b. cond b (normal_in p x) (changed the_generics without_generics (normal_in p x))) (sym (keeps_made p x))
  where
    go : (b : Bool) → normal_in p (cond b x (changed the_generics without_generics x))
        ≡ cond b (normal_in p x) (changed the_generics without_generics (normal_in p x))
    go true = refl
    go false = changed_made the_generics without_generics without_made p x

-- what is made of a kind's parts is made of what is left of them
pub tidied : (k : Kind) (p : Position) (x : Tree) → ordered k (normal_in p (emptied k x)) ≡ tidy k (normal_in p x)
tidied Where p x = removed_made is_bare_where p x (where_made p x)
tidied Generics p x = removed_made is_bare_generics p x (generics_made p x)
tidied BoundsColon p x = removed_made is_bare_colon p x (colon_made p x)
tidied LifetimeColon p x = removed_made is_bare_colon p x (colon_made p x)
tidied AnImpl p x = impl_made p x
tidied _ p x = refl

-- a node
pub node_made : (k : Kind) (p q : Position) (x left inside tidy y : Tree) → q ≡ passed k p → left ≡ emptied k x
    → inside ≡ normal_in q left → tidy ≡ ordered k inside → y ≡ t.Node k tidy → y ≡ normal_in p (t.Node k x)
node_made k p q x left inside tidy y e f g h i =
    i ∙ ap (t.Node k) (h ∙ ap (ordered k) (g ∙ ap (λ r. normal_in r left) e ∙ ap (normal_in (passed k p)) f)
    ∙ tidied k (passed k p) x)

pub ordered_mixed : (k : Kind) (p q : Position) (x left inside : Tree) → q ≡ passed k p → left ≡ emptied k x
    → inside ≡ normal_in q left → is_mixed (ordered k inside) ≡ true → is_mixed (normal_in p (t.Node k x)) ≡ true
ordered_mixed k p q x left inside e f g h =
    sym (ap is_mixed (node_made k p q x left inside (ordered k inside) _ e f g refl refl)) ∙ h

pub inside_mixed : (k : Kind) (p q : Position) (x left : Tree) → q ≡ passed k p → left ≡ emptied k x
    → is_mixed (normal_in q left) ≡ true → is_mixed (normal_in p (t.Node k x)) ≡ true
inside_mixed k p q x left e f h =
    ordered_mixed k p q x left (normal_in q left) e f refl (mixed_ordered k (normal_in q left) h)

pub ruleset nodes = (node_made, ordered_mixed, inside_mixed)

-- and no more is left
one_node : (x : Tree) → 1 ≤ node_count x
one_node (t.Pair x y) = omega arith
one_node (t.First x) = omega arith
one_node (t.Second x) = omega arith
one_node (t.Again x y) = omega arith
one_node (t.Final x) = omega arith
one_node (t.More x c spacing y) = omega arith
one_node (t.Group d x) = omega arith
one_node (t.Dropped x) = omega arith
one_node (t.Called n x) = omega arith
one_node (t.Verbatim x) = omega arith
one_node (t.Hidden x) = omega arith
one_node (t.Node k x) = omega arith
one_node (t.Whole x) = omega arith
one_node (t.Alone k y) = omega arith
one_node (t.Front k y x) = omega arith
one_node (t.Back l k y) = omega arith
one_node (t.Infix l k y r) = omega arith
one_node _ = omega arith

-- a part is found in no tree of one node
two_nodes : (n : Part) (e : Tree → Bool) → e t.Nil ≡ false → (x : Tree) → e (the n x) ≡ true → 2 ≤ node_count x
two_nodes n e f (t.Called m x) h = omega (arith, one_node x)
two_nodes n e f (t.Pair x y) h = omega (arith, one_node x)
two_nodes n e f (t.First x) h = omega (arith, one_node x)
two_nodes n e f (t.Second x) h = omega (arith, one_node x)
two_nodes n e f (t.Group d x) h = omega (arith, one_node x)
two_nodes n e f _ h = cc

removed_size : (n : Part) (e : Tree → Bool) → e t.Nil ≡ false → (x : Tree)
    → node_count (removed_if (λ y. e (the n y)) x) ≤ node_count x
removed_size n e f x = go (e (the n x)) refl
  where
    go : (b : Bool) → e (the n x) ≡ b → node_count (cond b (t.Second t.Nil) x) ≤ node_count x
    go true h = two_nodes n e f x h
    go false h = omega arith

without_size : (x : Tree) → node_count (without_generics x) ≤ node_count x
without_size (t.Node ImplGenerics x) = omega (arith, removed_size the_parameters is_bare_params refl x)
without_size (t.Node _ x) = omega arith
without_size _ = omega arith

module _ (n : Part) (f : Tree → Tree) (h : (x : Tree) → node_count (f x) ≤ node_count x) where
  cond_size : (b : Bool) (x : Tree) → node_count (cond b (f x) x) ≤ node_count x
  cond_size true x = h x
  cond_size false x = omega arith

  changed_size : (x : Tree) → node_count (changed n f x) ≤ node_count x
  changed_size (t.Called m x) = omega (arith, cond_size (same_part m n) x)
  changed_size (t.Pair x y) = omega (arith, changed_size x, changed_size y)
  changed_size (t.First x) = omega (arith, changed_size x)
  changed_size (t.Second x) = omega (arith, changed_size x)
  changed_size (t.Group d x) = omega (arith, changed_size x)
  changed_size _ = omega arith

impl_size : (x : Tree) → node_count (tidy_impl x) ≤ node_count x
impl_size x = go (keeps_generics x)
  where
    go : (b : Bool) → node_count (cond b x (changed the_generics without_generics x)) ≤ node_count x
    go true = omega arith
    go false = changed_size the_generics without_generics without_size x

pub emptied_size : (k : Kind) (x : Tree) → node_count (emptied k x) ≤ node_count x
emptied_size Where x = removed_size the_clause is_bare_clause refl x
emptied_size Generics x = removed_size the_parameters is_bare_params refl x
emptied_size BoundsColon x = removed_size the_bounds is_bare_bounds refl x
emptied_size LifetimeColon x = removed_size the_bounds is_bare_bounds refl x
emptied_size AnImpl x = impl_size x
emptied_size _ x = omega arith
