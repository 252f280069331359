-- What is printed for a kind of which normal form tidies the parts.
use Rattle.std.proofs.Common.{◌≡◌, List, [], refl, sym, ap, ◌∙◌, subst}
use Rattle.std.specs.Prelude.{Bool, true, false, cond}
use Rattle.proc_macro2.specs.Token.{Token}
use Rattle.rust_leaf.specs.declared.punct.Spacing.TheVariants.{Alone as Apart}
use Rattle.syn_grammar.specs.Kind.{Kind, Position, Plain}
use Rattle.syn_grammar.specs.Name.{Part, same_part}
use Rattle.syn_grammar.specs.Tree.{Tree, AWord, ALiteral, AMark, ALifetime, Raw, Nil, Pair, First, Second, End}
use Rattle.syn_grammar.specs.Tree.{Again, Final, More, Group, Dropped, Called, Verbatim, Node, Whole, flat}
use Rattle.syn_grammar.specs.Part.{changed}
use Rattle.syn_grammar.specs.Gram.{Gram, word, literal, mark, lifetime, raw, nothing, seq, alt, star, many, group}
use Rattle.syn_grammar.specs.Gram.{judged, dropped, called, ref, operand}
use Rattle.syn_grammar.specs.Table.{table}
use Rattle.syn_grammar.specs.Derives.{Derives}
use Rattle.syn_grammar.specs.Kept.{held, forget, kept}
use Rattle.syn_grammar.specs.Tidy.{removed_if, joined, those_then, others_of, lifetimes_first, tidy}
use Rattle.syn_grammar.specs.Normal.{passed, normal_in}
use Rattle.laws_reread_kinds.specs.Covered.{is_known, is_taken}
use Rattle.laws_reread_kinds.proofs.Fits.{Fits, IsMeant}
use Rattle.laws_reread_kinds.proofs.Printed.{Printed, IsPlaced, EntryLaw, KindLaw}

-- a kind that holds what it reads, and of which something is meant
pub meant_law : (k : Kind) → is_known k ≡ true
    → ((q : Position) (x w : Tree) (r : List Token) → Derives x (table k) r → Fits w (table k)
    → kept w ≡ tidy (held k) (normal_in (passed k q) (kept x)) → IsMeant k w) → ((x : Tree) → forget k x ≡ x)
    → ((q : Position) → passed (held k) q ≡ passed k q)
    → ((q : Position) → IsPlaced q k → EntryLaw (passed k q) (table k))
    → ((w : Tree) → Fits w (table k) → Printed (table k) (tidy (held k) (kept w))) → KindLaw k
meant_law k h n f p e t = record { entry = e; node = go }
  where
    go : (q : Position) → IsPlaced q k → (x : Tree) (r : List Token) → is_taken k x ≡ true → Derives x (table k) r
        → Printed (table k) (normal_in (passed k q) (kept x))
        → Printed (ref k) (normal_in q (Node (held k) (forget k (kept x))))
    go q l x r o d i =
        let j = t i.tree i.fits in
        let u = j.kept_is ∙ ap (tidy (held k)) i.kept_is in
        record {
          tree = Node k j.tree;
          fits = (refl, h, ap flat (f (kept j.tree)), j.fits, n q x j.tree r d j.fits u);
          kept_is =
              ap (Node (held k)) (f (kept j.tree) ∙ u
              ∙ ap (tidy (held k)) (sym (ap (λ m. normal_in m (kept x)) (p q))
              ∙ sym (ap (normal_in (passed (held k) q)) (f (kept x)))));
        }

-- and of which nothing is
pub tidied_law : (k : Kind) → is_known k ≡ true → ((x : Tree) → IsMeant k x) → ((x : Tree) → forget k x ≡ x)
    → ((q : Position) → passed (held k) q ≡ passed k q)
    → ((q : Position) → IsPlaced q k → EntryLaw (passed k q) (table k))
    → ((w : Tree) → Fits w (table k) → Printed (table k) (tidy (held k) (kept w))) → KindLaw k
tidied_law k h n = meant_law k h (λ q x w r d f e. n w)

-- the tree as it is
pub as_it_is : (g : Gram) (w : Tree) → Fits w g → Printed g (kept w)
as_it_is g w f = record { tree = w; fits = f; kept_is = refl }

pub chosen : (g : Gram) (b : Bool) (x y : Tree) → Printed g x → Printed g y → Printed g (cond b x y)
chosen g true x y i j = i
chosen g false x y i j = j

-- what is there where it is seen, unless it is removed
pub removed_printed : (t : List Token → Bool) (g : Gram) (e : Tree → Bool) → t [] ≡ false → (w : Tree)
    → Fits w (alt t g nothing) → Printed (alt t g nothing) (removed_if e (kept w))
removed_printed t g e n w f =
    chosen (alt t g nothing) (e (kept w)) (Second Nil) (kept w)
    (record { tree = Second Nil; fits = (([], n), tt); kept_is = refl }) (as_it_is (alt t g nothing) w f)

-- lists whose lifetimes come first
module _ (e : List Token → Bool) (g : Gram) (p : Tree → Bool) where
  joined_printed : (x t o : Tree) → Fits x g → Fits t (many e 44 g) → kept t ≡ o
      → Printed (many e 44 g) (joined (kept x) o)
  joined_printed x End o f h i = record { tree = Final x; fits = f; kept_is = ap (joined (kept x)) i }
  joined_printed x (Final y) o f h i =
      record { tree = More x 44 Apart (Final y); fits = (refl, refl, f, h); kept_is = ap (joined (kept x)) i }
  joined_printed x (More y c spacing z) o f h i =
      record {
        tree = More x 44 Apart (More y c spacing z);
        fits = (refl, refl, f, h);
        kept_is = ap (joined (kept x)) i;
      }
  joined_printed x _ o f h i = absurd h

  those_printed : (w o : Tree) → Fits w (many e 44 g) → Printed (many e 44 g) o
      → Printed (many e 44 g) (those_then p (kept w) o)
  those_printed (More x c spacing y) o f j =
      let i = those_printed y o f.3 j in
      chosen (many e 44 g) (p (kept x)) (More (kept x) c Apart (those_then p (kept y) o)) (those_then p (kept y) o)
      (record {
        tree = More x c Apart i.tree;
        fits = (f.0, refl, f.2, i.fits);
        kept_is = ap (More (kept x) c Apart) i.kept_is;
      })
      i
  those_printed (Final x) o f j =
      chosen (many e 44 g) (p (kept x)) (joined (kept x) o) o (joined_printed x j.tree o f j.fits j.kept_is) j
  those_printed End o f j = j
  those_printed _ o f j = absurd f

  others_printed : (w : Tree) → Fits w (many e 44 g) → Printed (many e 44 g) (others_of p (kept w))
  others_printed (More x c spacing y) f =
      let i = others_printed y f.3 in
      chosen (many e 44 g) (p (kept x)) (others_of p (kept y)) (More (kept x) c Apart (others_of p (kept y))) i
      (record {
        tree = More x c Apart i.tree;
        fits = (f.0, refl, f.2, i.fits);
        kept_is = ap (More (kept x) c Apart) i.kept_is;
      })
  others_printed (Final x) f =
      chosen (many e 44 g) (p (kept x)) End (Final (kept x)) (record { tree = End; fits = tt; kept_is = refl })
      (as_it_is (many e 44 g) (Final x) f)
  others_printed End f = as_it_is (many e 44 g) End f
  others_printed _ f = absurd f

  pub lifetimes_printed : (w : Tree) → Fits w (many e 44 g) → Printed (many e 44 g) (lifetimes_first p (kept w))
  lifetimes_printed w f = those_printed w (others_of p (kept w)) f (others_printed w f)

-- a part that is changed
abbrev pub ChangeLaw : Part → (Tree → Tree) → Gram → Type 0
ChangeLaw n f (seq a b) = ChangeLaw n f a × ChangeLaw n f b
ChangeLaw n f (alt t a b) = ChangeLaw n f a × ChangeLaw n f b
ChangeLaw n f (group d g) = ChangeLaw n f g
ChangeLaw n f (judged v g) = ⊥
ChangeLaw n f (called m g) = (w : Tree) → Fits w g → Printed g (cond (same_part m n) (f (kept w)) (kept w))
ChangeLaw n f _ = Unit {0}

pub changed_printed : (n : Part) (f : Tree → Tree) (w : Tree) (g : Gram) → ChangeLaw n f g → Fits w g
    → Printed g (changed n f (kept w))
changed_printed n f (AWord cs) (word p) l h = as_it_is (word p) (AWord cs) h
changed_printed n f (ALiteral cs) (literal p) l h = as_it_is (literal p) (ALiteral cs) h
changed_printed n f (AMark c cs spacing) (mark d ds) l h = as_it_is (mark d ds) (AMark c cs spacing) h
changed_printed n f (ALifetime cs) lifetime l h = as_it_is lifetime (ALifetime cs) h
changed_printed n f (Raw ts) raw l h = as_it_is raw (Raw ts) h
changed_printed n f Nil nothing l h = as_it_is nothing Nil h
changed_printed n f (Pair x y) (seq a b) l h =
    let i = changed_printed n f x a l.0 h.0 in
    let j = changed_printed n f y b l.1 h.1 in
    record {
      tree = Pair i.tree j.tree;
      fits = (i.fits, j.fits);
      kept_is = ap (λ z. Pair z (kept j.tree)) i.kept_is ∙ ap (Pair (changed n f (kept x))) j.kept_is;
    }
changed_printed n f (First x) (alt t a b) l h =
    let i = changed_printed n f x a l.0 h.1 in
    record { tree = First i.tree; fits = (h.0, i.fits); kept_is = ap First i.kept_is }
changed_printed n f (Second x) (alt t a b) l h =
    let i = changed_printed n f x b l.1 h.1 in
    record { tree = Second i.tree; fits = (h.0, i.fits); kept_is = ap Second i.kept_is }
changed_printed n f End (star t g) l h = as_it_is (star t g) End h
changed_printed n f (Again x y) (star t g) l h = as_it_is (star t g) (Again x y) h
changed_printed n f End (many e c g) l h = as_it_is (many e c g) End h
changed_printed n f (Final x) (many e c g) l h = as_it_is (many e c g) (Final x) h
changed_printed n f (More x d spacing y) (many e c g) l h = as_it_is (many e c g) (More x d spacing y) h
changed_printed n f (Group d x) (group e g) l h =
    let i = changed_printed n f x g l h.1 in
    record { tree = Group d i.tree; fits = (h.0, i.fits); kept_is = ap (Group d) i.kept_is }
changed_printed n f (First x) (judged v g) l h = absurd l
changed_printed n f (Verbatim x) (judged v g) l h = absurd l
changed_printed n f (Dropped x) (dropped g) l h = as_it_is (dropped g) (Dropped x) h
changed_printed n f (Called m x) (called o g) l h =
    let i = l x h.1 in
    record {
      tree = Called o i.tree;
      fits = (refl, i.fits);
      kept_is = ap (Called o) i.kept_is ∙ ap (λ k. Called k (cond (same_part k n) (f (kept x)) (kept x))) (sym h.0);
    }
changed_printed n f (Node k x) (ref m) l h = as_it_is (ref m) (Node k x) h
changed_printed n f (Whole x) (operand p m) l h = as_it_is (operand p m) (Whole x) h
changed_printed n f _ _ l h = absurd h

-- A kind that holds another tree than was read: what stands for a tree of it, by what is held.
pub record Held (k : Kind) (w : Tree) : Type 0 where
  pub tree : Tree
  pub fits : Fits tree (table k)
  pub printed : flat (forget k (kept tree)) ≡ flat (kept tree)
  pub kept_is : forget k (kept tree) ≡ forget k (kept w)

pub held_law : (k : Kind) → is_known k ≡ true → ((x : Tree) → IsMeant k x) → ((q : Position) → passed k q ≡ Plain)
    → ((q : Position) → passed (held k) q ≡ Plain) → ((x : Tree) → tidy (held k) x ≡ x)
    → ((v : Tree) → forget k (normal_in Plain v) ≡ normal_in Plain (forget k v)) → EntryLaw Plain (table k)
    → ((w : Tree) → Fits w (table k) → Held k w) → KindLaw k
held_law k h n p u t c e f =
    record { entry = λ q l. subst (λ m. EntryLaw m (table k)) (sym (p q)) e; node = go }
  where
    go : (q : Position) → IsPlaced q k → (x : Tree) (r : List Token) → is_taken k x ≡ true → Derives x (table k) r
        → Printed (table k) (normal_in (passed k q) (kept x))
        → Printed (ref k) (normal_in q (Node (held k) (forget k (kept x))))
    go q l x r o d i =
        let j = f i.tree i.fits in
        record {
          tree = Node k j.tree;
          fits = (refl, h, j.printed, j.fits, n j.tree);
          kept_is =
              ap (Node (held k)) (j.kept_is ∙ ap (forget k) (i.kept_is ∙ ap (λ m. normal_in m (kept x)) (p q))
              ∙ c (kept x)
              ∙ sym (ap (λ m. normal_in m (forget k (kept x))) (u q))
              ∙ sym (t (normal_in (passed (held k) q) (forget k (kept x)))));
        }
