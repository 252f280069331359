-- Where a list has two separators, so it has in what is made of it.
use Rattle.std.specs.Prelude.{◌≡◌, ◌<◌, ℕ, zero, suc, Bool, true, false, not, ◌||◌, cond, nat_eq, List, [], ◌∷◌, map}
use Rattle.std.specs.Prelude.{get_or, length, refl}
use Rattle.std.proofs.Common.{ap, arith, ◌∙◌, sym}
use Rattle.std.proofs.lemmas.Bool.{eq-eqb, eqb-true}
use Rattle.proc_macro2.specs.Token.{Token}
use Rattle.rust_leaf.specs.declared.punct.Spacing.TheVariants.{Alone as Apart}
use Rattle.syn_grammar.specs.Kind.{Kind, Position, Plain, AStatement, AnItem, GenericParams, Arguments, ATypeAlias}
use Rattle.syn_grammar.specs.Forms.{inside}
use Rattle.syn_grammar.specs.Name.{Part, same_part, the_arguments, the_value}
use Rattle.syn_grammar.specs.Normal.{apart_alternative, apart_if, apart_item, apart_raw, formed, is_enclosed, normal_in}
use Rattle.syn_grammar.specs.Parens.{begins_in, follow, parens_unless, stays_left, stays_right}
use Rattle.syn_grammar.specs.Parens.{takes_what_follows, with_left, with_right}
use Rattle.syn_grammar.specs.Part.{changed}
use Rattle.syn_grammar.specs.Tidy.{is_absent, is_lifetime_argument, is_lifetime_param, joined, lifetimes_first, moved}
use Rattle.syn_grammar.specs.Tidy.{others_of, those_then}
use Rattle.syn_grammar.specs.Tree as t
use Rattle.syn_grammar.specs.Tree.{Tree, flat}
use Rattle.reader_tree.specs.declared.tree.Element.{Element}
use Rattle.reader_tree.specs.Forms.{elements, seconds, turns}
use Rattle.writer_normal.specs.Changes.{ordered}
use Rattle.writer_normal.specs.Separators.{has_other, is_mixed}

-- of two facts one, and none
either_left : (a b : Bool) → a ≡ true → (a || b) ≡ true
either_left true b e = refl
either_left false b e = cc

either_right : (a b : Bool) → b ≡ true → (a || b) ≡ true
either_right true b e = refl
either_right false b e = e

neither : (a b : Bool) → (a || b) ≡ false → (a ≡ false) × (b ≡ false)
neither true b e = cc
neither false b e = (refl, e)

both_none : (a b : Bool) → a ≡ false → b ≡ false → (a || b) ≡ false
both_none true b e f = cc
both_none false b e f = f

not_false : (a : Bool) → not a ≡ false → a ≡ true
not_false true e = refl
not_false false e = cc

untrue : (a : Bool) → a ≡ true → not a ≡ false
untrue true e = refl
untrue false e = cc

-- of two facts the second, and so another in its place
one_of : (a b c : Bool) → (a || b) ≡ true → (b ≡ true → c ≡ true) → (a || c) ≡ true
one_of true b c e f = refl
one_of false b c e f = f e

either_of : (a b c d : Bool) → (a || b) ≡ true → (a ≡ true → c ≡ true) → (b ≡ true → d ≡ true) → (c || d) ≡ true
either_of true b c d e f g = either_left c d (f refl)
either_of false b c d e f g = either_right c d (g e)

-- by the contrary
or_else : (a b : Bool) → (b ≡ false → a ≡ false) → a ≡ true → b ≡ true
or_else a true f e = refl
or_else a false f e = sym (f refl) ∙ e

pub pair_front : (x y : Tree) → is_mixed x ≡ true → is_mixed (t.Pair x y) ≡ true
pair_front x y e = either_left (is_mixed x) (is_mixed y) e

pub pair_back : (x y : Tree) → is_mixed y ≡ true → is_mixed (t.Pair x y) ≡ true
pair_back x y e = either_right (is_mixed x) (is_mixed y) e

-- behind seconds
pub mixed_seconds : (n : ℕ) (x : Tree) → is_mixed (seconds n x) ≡ is_mixed x
mixed_seconds zero x = refl
mixed_seconds (suc n) x = mixed_seconds n x

pub ruleset places = (pair_front, pair_back, mixed_seconds)

-- turns, and those that are set apart
mixed_raw : (x : Tree) → is_mixed (apart_raw x) ≡ is_mixed x
mixed_raw (t.Node AnItem (t.Raw ts)) = refl
mixed_raw x = refl

mixed_alternative : (x : Tree) → is_mixed (apart_alternative x) ≡ is_mixed x
mixed_alternative (t.First x) = mixed_raw x
mixed_alternative (t.Second x) = mixed_alternative x
mixed_alternative x = refl

mixed_apart : (x : Tree) → is_mixed (apart_item x) ≡ is_mixed x
mixed_apart (t.Second (t.Node AStatement x)) = mixed_alternative x
mixed_apart x = refl

mixed_apart_if : (b : Bool) (x : Tree) → is_mixed (apart_if b x) ≡ is_mixed x
mixed_apart_if true x = mixed_apart x
mixed_apart_if false x = refl

pub mixed_turns : (p : Position) (xs : List Tree)
    → is_mixed (normal_in p (turns xs)) ≡ is_mixed (turns (map (normal_in p) xs))
mixed_turns p [] = refl
mixed_turns p (x ∷ xs) =
    let y : Tree = normal_in p (turns xs) in
    ap (λ b. b || is_mixed y) (mixed_apart_if (is_enclosed (turns xs) y) (normal_in p x))
    ∙ ap (λ b. is_mixed (normal_in p x) || b) (mixed_turns p xs)

-- elements
mixed_last : (c : ℕ) (es : List Element) (y : Tree) → is_mixed y ≡ true → is_mixed (elements c es y) ≡ true
mixed_last c [] y h = h
mixed_last c (e ∷ es) y h =
    either_right (has_other c (elements c es y)) (is_mixed e.tree || is_mixed (elements c es y))
    (either_right (is_mixed e.tree) (is_mixed (elements c es y)) (mixed_last c es y h))

pub list_element : (p : Position) (c : ℕ) (es : List Element) (y : Tree)
    → is_mixed (turns (map (λ e. normal_in p e.tree) es)) ≡ true → is_mixed (normal_in p (elements c es y)) ≡ true
list_element p c [] y h = cc
list_element p c (e ∷ es) y h =
    let rest : Tree = normal_in p (elements c es y) in
    either_right (has_other c rest) (is_mixed (normal_in p e.tree) || is_mixed rest)
    (one_of (is_mixed (normal_in p e.tree)) (is_mixed (turns (map (λ e. normal_in p e.tree) es))) (is_mixed rest) h
    (list_element p c es y))

pub list_last : (p : Position) (c : ℕ) (es : List Element) (x : Tree) → is_mixed (normal_in p x) ≡ true
    → is_mixed (normal_in p (elements c es (t.Final x))) ≡ true
list_last p c [] x h = h
list_last p c (e ∷ es) x h =
    let rest : Tree = normal_in p (elements c es (t.Final x)) in
    either_right (has_other c rest) (is_mixed (normal_in p e.tree) || is_mixed rest)
    (either_right (is_mixed (normal_in p e.tree)) (is_mixed rest) (list_last p c es x h))

-- one of some
pub turn_mixed : (p : Position) (xs : List Tree) (i : ℕ) (x : Tree) → i < length xs → x ≡ get_or xs i x
    → is_mixed (normal_in p x) ≡ true → is_mixed (turns (map (normal_in p) xs)) ≡ true
turn_mixed p [] i x h is e = absurd (omega (arith, h))
turn_mixed p (y ∷ ys) zero x h is e =
    either_left (is_mixed (normal_in p y)) _ (ap (λ z. is_mixed (normal_in p z)) (sym is) ∙ e)
turn_mixed p (y ∷ ys) (suc i) x h is e =
    either_right (is_mixed (normal_in p y)) _ (turn_mixed p ys i x (omega (arith, h)) is e)

pub element_mixed : (p : Position) (es : List Element) (i : ℕ) (x : Element) → i < length es → x ≡ get_or es i x
    → is_mixed (normal_in p x.tree) ≡ true → is_mixed (turns (map (λ e. normal_in p e.tree) es)) ≡ true
element_mixed p [] i x h is e = absurd (omega (arith, h))
element_mixed p (y ∷ ys) zero x h is e =
    either_left (is_mixed (normal_in p y.tree)) _ (ap (λ (z : Element). is_mixed (normal_in p z.tree)) (sym is) ∙ e)
element_mixed p (y ∷ ys) (suc i) x h is e =
    either_right (is_mixed (normal_in p y.tree)) _ (element_mixed p ys i x (omega (arith, h)) is e)

pub ruleset items = (turn_mixed, element_mixed)

-- forms of expressions
mixed_unless : (b : Bool) (x : Tree) → is_mixed (parens_unless b x) ≡ is_mixed x
mixed_unless true x = refl
mixed_unless false x = refl

pub mixed_alone : (p : Position) (ts : List Token) (k : Kind) (y : Tree)
    → is_mixed (formed p ts (t.Alone k y)) ≡ is_mixed (normal_in Plain y)
mixed_alone p ts k y = mixed_unless (not (takes_what_follows p k ts)) (t.Alone k (normal_in Plain y))

pub mixed_front : (p : Position) (ts : List Token) (k : Kind) (y x : Tree)
    → is_mixed (formed p ts (t.Front k y x)) ≡ (is_mixed (normal_in Plain y) || is_mixed (formed (inside p k) ts x))
mixed_front p ts k y x =
    let own : Tree = normal_in Plain y in
    let right : Tree = formed (inside p k) ts x in
    mixed_unless (begins_in p k) (t.Front k own (with_right p k own right))
    ∙ ap (λ b. is_mixed own || b) (mixed_unless (stays_right p k own right) right)

pub mixed_back : (p : Position) (ts : List Token) (l : Tree) (k : Kind) (y : Tree)
    → is_mixed (formed p ts (t.Back l k y))
    ≡ (is_mixed (formed p (follow (flat (normal_in Plain y))) l) || is_mixed (normal_in Plain y))
mixed_back p ts l k y =
    let own : Tree = normal_in Plain y in
    let left : Tree = formed p (follow (flat own)) l in
    mixed_unless _ (t.Back (with_left p k own left) k own)
    ∙ ap (λ b. b || is_mixed own) (mixed_unless (stays_left p k own left) left)

pub mixed_infix : (p : Position) (ts : List Token) (l : Tree) (k : Kind) (y r : Tree)
    → is_mixed (formed p ts (t.Infix l k y r))
    ≡ (is_mixed (formed p (follow (flat (normal_in Plain y))) l)
    || (is_mixed (normal_in Plain y) || is_mixed (formed (inside p k) ts r)))
mixed_infix p ts l k y r =
    let own : Tree = normal_in Plain y in
    let left : Tree = formed p (follow (flat own)) l in
    let right : Tree = formed (inside p k) ts r in
    ap (λ b. b || (is_mixed own || is_mixed (with_right p k own right)))
    (mixed_unless (stays_left p k own left) left)
    ∙ ap (λ b. is_mixed left || (is_mixed own || b)) (mixed_unless (stays_right p k own right) right)

pub alone_own : (p : Position) (ts : List Token) (k : Kind) (y : Tree) → is_mixed (normal_in Plain y) ≡ true
    → is_mixed (formed p ts (t.Alone k y)) ≡ true
alone_own p ts k y e = mixed_alone p ts k y ∙ e

pub front_own : (p : Position) (ts : List Token) (k : Kind) (y x : Tree) → is_mixed (normal_in Plain y) ≡ true
    → is_mixed (formed p ts (t.Front k y x)) ≡ true
front_own p ts k y x e = mixed_front p ts k y x ∙ either_left _ _ e

pub front_right : (p : Position) (ts : List Token) (k : Kind) (y x : Tree) → is_mixed (formed (inside p k) ts x) ≡ true
    → is_mixed (formed p ts (t.Front k y x)) ≡ true
front_right p ts k y x e = mixed_front p ts k y x ∙ either_right _ _ e

pub back_own : (p : Position) (ts : List Token) (l : Tree) (k : Kind) (y : Tree) → is_mixed (normal_in Plain y) ≡ true
    → is_mixed (formed p ts (t.Back l k y)) ≡ true
back_own p ts l k y e = mixed_back p ts l k y ∙ either_right _ _ e

pub back_left : (p : Position) (ts : List Token) (l : Tree) (k : Kind) (y own : Tree) → own ≡ normal_in Plain y
    → is_mixed (formed p (follow (flat own)) l) ≡ true → is_mixed (formed p ts (t.Back l k y)) ≡ true
back_left p ts l k y own e f =
    mixed_back p ts l k y ∙ either_left _ _ (ap (λ o. is_mixed (formed p (follow (flat o)) l)) (sym e) ∙ f)

pub infix_own : (p : Position) (ts : List Token) (l : Tree) (k : Kind) (y r : Tree)
    → is_mixed (normal_in Plain y) ≡ true → is_mixed (formed p ts (t.Infix l k y r)) ≡ true
infix_own p ts l k y r e = mixed_infix p ts l k y r ∙ either_right _ _ (either_left _ _ e)

pub infix_left : (p : Position) (ts : List Token) (l : Tree) (k : Kind) (y r own : Tree) → own ≡ normal_in Plain y
    → is_mixed (formed p (follow (flat own)) l) ≡ true → is_mixed (formed p ts (t.Infix l k y r)) ≡ true
infix_left p ts l k y r own e f =
    mixed_infix p ts l k y r ∙ either_left _ _ (ap (λ o. is_mixed (formed p (follow (flat o)) l)) (sym e) ∙ f)

pub infix_right : (p : Position) (ts : List Token) (l : Tree) (k : Kind) (y r : Tree)
    → is_mixed (formed (inside p k) ts r) ≡ true → is_mixed (formed p ts (t.Infix l k y r)) ≡ true
infix_right p ts l k y r e = mixed_infix p ts l k y r ∙ either_right _ _ (either_right _ _ e)

-- a list whose separators are that mark, and in whose elements no list has two
Has : ℕ → Tree → Type 0
Has d (t.More x c spacing y) = (c ≡ d) × (is_mixed x ≡ false) × Has d y
Has d x = is_mixed x ≡ false

other_none : (d : ℕ) (x : Tree) → has_other d x ≡ false → is_mixed x ≡ false → Has d x
unfolding Has
other_none d (t.More x c spacing y) e f =
    let g = neither (not (nat_eq c d)) (has_other d y) e in
    let h = neither (has_other c y) (is_mixed x || is_mixed y) f in
    let i = neither (is_mixed x) (is_mixed y) h.1 in
    (eqb-true c d (not_false (nat_eq c d) g.0), i.0, other_none d y g.1 i.1)
other_none d _ e f = f

none_other : (d : ℕ) (x : Tree) → Has d x → has_other d x ≡ false
unfolding Has
none_other d (t.More x c spacing y) h =
    both_none (not (nat_eq c d)) (has_other d y) (untrue (nat_eq c d) (eq-eqb c d h.0)) (none_other d y h.2)
none_other d _ h = refl

unmixed : (d : ℕ) (x : Tree) → Has d x → is_mixed x ≡ false
unfolding Has
unmixed d (t.More x c spacing y) h =
    both_none (has_other c y) (is_mixed x || is_mixed y)
    (ap (λ e. has_other e y) h.0 ∙ none_other d y h.2)
    (both_none (is_mixed x) (is_mixed y) h.1 (unmixed d y h.2))
unmixed d _ h = h

separator : Tree → ℕ
separator (t.More x c spacing y) = c
separator _ = 0

has_own : (x : Tree) → is_mixed x ≡ false → Has (separator x) x
unfolding Has separator
has_own (t.More x c spacing y) e =
    let h = neither (has_other c y) (is_mixed x || is_mixed y) e in
    let i = neither (is_mixed x) (is_mixed y) h.1 in
    (refl, i.0, other_none c y h.0 i.1)
has_own _ e = e

-- lifetimes before others
module _ (p : Tree → Bool) (d : ℕ) where
  joined_then : (x o : Tree) → Has d (joined x o) → (is_mixed x ≡ false) × Has d o
  unfolding Has
  joined_then x t.End h = (h, refl)
  joined_then x _ h = (h.1, h.2)

  then_has : (x o : Tree) → Has d (those_then p x o) → Has d o
  unfolding Has
  then_has (t.More x c spacing y) o h = go (p x) h (then_has y o)
    where
      go : (b : Bool) → Has d (cond b (t.More x c spacing (those_then p y o)) (those_then p y o))
          → (Has d (those_then p y o) → Has d o) → Has d o
      go true h f = f h.2
      go false h f = f h
  then_has (t.Final x) o h = go (p x) h
    where
      go : (b : Bool) → Has d (cond b (joined x o) o) → Has d o
      go true h = (joined_then x o h).1
      go false h = h
  then_has _ o h = h

  both_have : (x o : Tree) → Has d (those_then p x o) → Has d (others_of p x) → Has d x
  unfolding Has
  both_have (t.More x c spacing y) o h i = go (p x) h i (both_have y o)
    where
      go : (b : Bool) → Has d (cond b (t.More x c spacing (those_then p y o)) (those_then p y o))
          → Has d (cond b (others_of p y) (t.More x c spacing (others_of p y)))
          → (Has d (those_then p y o) → Has d (others_of p y) → Has d y) → Has d (t.More x c spacing y)
      go true h i f = (h.0, h.1, f h.2 i)
      go false h i f = (i.0, i.1, f h i.2)
  both_have (t.Final x) o h i = go (p x) h i
    where
      go : (b : Bool) → Has d (cond b (joined x o) o) → Has d (cond b t.End (t.Final x)) → Has d (t.Final x)
      go true h i = (joined_then x o h).0
      go false h i = i
  both_have _ o h i = i

mixed_first : (p : Tree → Bool) (x : Tree) → is_mixed x ≡ true → is_mixed (lifetimes_first p x) ≡ true
mixed_first p x = or_else (is_mixed x) (is_mixed (lifetimes_first p x)) (λ e.
    let o : Tree = others_of p x in
    let d : ℕ = separator (those_then p x o) in
    let h : Has d (those_then p x o) = has_own (those_then p x o) e in
    unmixed d x (both_have p d x o h (then_has p d x o h)))

-- a lifetime with a comma behind it, before others
pub comma_before : (c : ℕ) (x : Tree) (ds es : List Element) → (c ≡ 44 → ⊥) → (es ≡ [] → ⊥)
    → is_mixed (elements c ds (joined x (elements c es t.End))) ≡ true
comma_before c x ds [] h some = absurd (some refl)
comma_before c x ds (e ∷ es) h some =
    mixed_last c ds (t.More x 44 Apart (elements c (e ∷ es) t.End)) (or_else true _ (λ f.
    absurd (h (eqb-true c 44 (not_false (nat_eq c 44)
    (neither (not (nat_eq c 44)) (has_other 44 (elements c es t.End))
    (neither (has_other 44 (elements c (e ∷ es) t.End)) (is_mixed x || is_mixed (elements c (e ∷ es) t.End)) f).0).0))))
    refl)

-- a part that is changed
mixed_cond : (b : Bool) (f : Tree → Tree) (x : Tree) → (is_mixed x ≡ true → is_mixed (f x) ≡ true) → is_mixed x ≡ true
    → is_mixed (cond b (f x) x) ≡ true
mixed_cond true f x h e = h e
mixed_cond false f x h e = e

mixed_changed : (n : Part) (f : Tree → Tree) → ((x : Tree) → is_mixed x ≡ true → is_mixed (f x) ≡ true) → (x : Tree)
    → is_mixed x ≡ true → is_mixed (changed n f x) ≡ true
mixed_changed n f h (t.Called m x) e = mixed_cond (same_part m n) f x (h x) e
mixed_changed n f h (t.Pair x y) e =
    either_of (is_mixed x) (is_mixed y) (is_mixed (changed n f x)) (is_mixed (changed n f y)) e (mixed_changed n f h x)
    (mixed_changed n f h y)
mixed_changed n f h (t.First x) e = mixed_changed n f h x e
mixed_changed n f h (t.Second x) e = mixed_changed n f h x e
mixed_changed n f h (t.Group d x) e = mixed_changed n f h x e
mixed_changed n f h _ e = e

mixed_moved : (x : Tree) → is_mixed x ≡ true → is_mixed (moved x) ≡ true
mixed_moved (t.First (t.Pair w d)) e = go (is_absent w)
  where
    turned : (b : Bool) → is_mixed w ≡ b → (is_mixed d || is_mixed w) ≡ true
    turned true f = either_right (is_mixed d) (is_mixed w) f
    turned false f = either_left (is_mixed d) (is_mixed w) (sym (ap (λ b. b || is_mixed d) f) ∙ e)

    go : (b : Bool) → is_mixed (cond b (t.Second (t.Pair d w)) (t.First (t.Pair w d))) ≡ true
    go true = turned (is_mixed w) refl
    go false = e
mixed_moved x e = e

pub mixed_ordered : (k : Kind) (x : Tree) → is_mixed x ≡ true → is_mixed (ordered k x) ≡ true
mixed_ordered GenericParams x e = mixed_first is_lifetime_param x e
mixed_ordered Arguments x e =
    mixed_changed the_arguments (lifetimes_first is_lifetime_argument) (mixed_first is_lifetime_argument) x e
mixed_ordered (ATypeAlias p) x e = mixed_changed the_value moved mixed_moved x e
mixed_ordered _ x e = e
