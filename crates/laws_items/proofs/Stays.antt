-- What ends in a stop is read the same before whatever follows it.
use Rattle.std.proofs.Common.{◌≡◌, ℕ, suc, List, [], ◌∷◌, ◌++◌, refl, sym, ap, ◌∙◌, subst, append_assoc}
use Rattle.std.specs.Prelude.{Bool, true, false, Some}
use Rattle.proc_macro2.specs.Token.{Token, Opens, Closes, Punct}
use Rattle.proc_macro2.specs.declared.delimiter.Delimiter.{Delimiter}
use Rattle.proc_macro2.specs.declared.delimiter.Delimiter.TheVariants.{Brace}
use Rattle.rust_leaf.specs.declared.punct.Spacing.{Spacing}
use Rattle.syn_grammar.specs.Kind.{Position, Kind, AnItem, AForeignItem, ATraitItem, AnImplItem}
use Rattle.syn_grammar.specs.Tree.{Tree, AWord, ALiteral, AMark, ALifetime, Raw, Nil, Pair, First, Second, End, Again}
use Rattle.syn_grammar.specs.Tree.{Final, More, Group, Dropped, Called, Verbatim, Node, Whole, marks, flat}
use Rattle.syn_grammar.specs.Gram.{Gram, word, literal, mark, lifetime, raw, nothing, seq, alt, star, many, group}
use Rattle.syn_grammar.specs.Gram.{judged, dropped, called, ref, operand}
use Rattle.syn_grammar.specs.Tree.{Alone, Front, Back, Infix}
use Rattle.syn_grammar.specs.Forms.{inside, level, goes_on, takes_kind}
use Rattle.syn_grammar.specs.Derives.{Bound}
use Rattle.laws_items.proofs.Forms.{front_same, closure_same, back_same, right_same, front_steady, back_steady}
use Rattle.laws_items.proofs.Forms.{is_closure}
use Rattle.laws_items.proofs.Bars.{Barred, none, alike, front_of, bars, barred}
use Rattle.syn_grammar.specs.Forms.{front}
use Rattle.syn_grammar.specs.Kind.{ExprClosure, ExprTypedClosure}
use Rattle.syn_grammar.specs.Table.{table}
use Rattle.syn_grammar.specs.Derives.{Derives}
use Rattle.syn_grammar.specs.Read.{IsRead}
use Rattle.syn_grammar.specs.Kept.{held, kept}
use Rattle.syn_grammar.specs.Normal.{passed, normal}
use Rattle.laws_items.specs.Begins.{is_any_item}
use Rattle.laws_items.proofs.Passed.{tree_passed}
use Rattle.laws_items.proofs.Alike.{Alike, semicolon, brace, a_text, quoted, sign, opened, closed, IsSteady}
use Rattle.laws_items.proofs.Alike.{blind_sign}
use Rattle.laws_items.proofs.Steady.{is_steady, Steady, no_kind, steady_table}
use Rattle.laws_items.proofs.Ended.{is_ended, Ended, ended_table}

abbrev pub Same : List Token → List Token → Type 0
Same a b = (m : ℕ) × Alike 0 m a b

-- a tree may stand in front
pub ahead : (x : Tree) (g : Gram) (r a b : List Token) → Derives x g r → Same a b → Same (flat x ++ a) (flat x ++ b)
ahead x g r a b d h =
    alike 0 0 (flat x ++ a) (flat x ++ b)
    (front_of 0 0 (flat x) a b (tree_passed x g r d 0 (Closes Brace ∷ [])) (none h.1))

pub joined : (xs ys zs a b : List Token) → Same (xs ++ (ys ++ a)) (xs ++ (zs ++ b))
    → Same ((xs ++ ys) ++ a) ((xs ++ zs) ++ b)
joined xs ys zs a b h =
    subst (λ ts. Same ts ((xs ++ zs) ++ b)) (sym (append_assoc xs ys a))
    (subst (λ ts. Same (xs ++ (ys ++ a)) ts) (sym (append_assoc xs zs b)) h)

never_empty : (n m : ℕ) (a b : List Token) → Alike n m a b → a ≡ [] → ⊥
never_empty _ _ _ _ (semicolon i j) e = cc
never_empty _ _ _ _ brace e = cc
never_empty _ _ _ _ (a_text cs h) e = cc
never_empty _ _ _ _ (quoted cs h) e = cc
never_empty _ _ _ _ (sign c i h) e = cc
never_empty _ _ _ _ (opened d h) e = cc
never_empty _ _ _ _ (closed d h) e = cc

pub tested : (t : List Token → Bool) → IsSteady t → (a b : List Token) (v : Bool) → Same a b → t a ≡ v → t b ≡ v
tested t s a b v h e = sym (s.by 0 h.0 a b h.1) ∙ e

-- a right operand goes on with neither
still : (p : Position) (n : ℕ) (x : Tree) (a b : List Token) → Same a b → goes_on p n x a ≡ false
    → goes_on p n x b ≡ false
still p n x a b h e = sym (ap (takes_kind p n x) (back_same 0 h.0 a b h.1 p)) ∙ e

-- the form that begins there; of a closure the two | stand before the stop
two_bars : (k : Kind) → is_closure k ≡ true → bars (table k) 0 ≡ 2
unfolding table
two_bars ExprClosure e = refl
two_bars ExprTypedClosure e = refl
two_bars _ e = no_kind e

front_there : (y : Tree) (k : Kind) (p : Position) (a b : List Token) → Derives y (table k) a → Same a b
    → front p (flat y ++ a) ≡ Some k → front p (flat y ++ b) ≡ Some k
front_there y k p a b d h e = go (is_closure k) refl
  where
    go : (c : Bool) → is_closure k ≡ c → front p (flat y ++ b) ≡ Some k
    go true f =
        let i = ahead y (table k) a a b d h in
        sym (closure_same 0 i.0 (flat y ++ a) (flat y ++ b) i.1 p
        (subst (λ j. Barred 0 j (flat y ++ a) (flat y ++ b)) (two_bars k f)
        (barred y (table k) a 0 a b d (none h.1)))) ∙ e
    go false f =
        let i = ahead y (table k) a a b d h in
        front_same 0 i.0 (flat y ++ a) (flat y ++ b) i.1 p k f e

-- before a stop
mutual
  pub shift : (x : Tree) (g : Gram) (a b : List Token) → Steady g → Same a b → Derives x g a
      → Derives x g b
  shift (AWord cs) (word p) a b s h d = d
  shift (ALiteral cs) (literal p) a b s h d = d
  shift (AMark c cs spacing) (mark f fs) a b s h d = d
  shift (ALifetime cs) lifetime a b s h d = d
  shift (Raw ts) raw a b s h d = absurd (never_empty 0 h.0 a b h.1 d.1)
  shift Nil nothing a b s h d = d
  shift (Pair x y) (seq f g) a b s h d = (
    shift x f (flat y ++ a) (flat y ++ b) s.0 (ahead y g a a b d.1 h) d.0,
    shift y g a b s.1 h d.1,
  )
  shift (First x) (alt t f g) a b s h d =
      (tested t s.0 (flat x ++ a) (flat x ++ b) true (ahead x f a a b d.1 h) d.0, shift x f a b s.1 h d.1)
  shift (Second x) (alt t f g) a b s h d =
      (tested t s.0 (flat x ++ a) (flat x ++ b) false (ahead x g a a b d.1 h) d.0, shift x g a b s.2 h d.1)
  shift End (star t g) a b s h d = tested t s.0 a b false h d
  shift (Again x y) (star t g) a b s h d =
      let j = ahead y (star t g) a a b d.2 h in (
        tested t s.0 (flat x ++ flat y ++ a) (flat x ++ flat y ++ b) true
            (joined (flat x) (flat y) (flat y) a b (ahead x g (flat y ++ a) (flat y ++ a) (flat y ++ b) d.1 j)) d.0,
        shift x g (flat y ++ a) (flat y ++ b) s.1 j d.1,
        shift y (star t g) a b s h d.2,
      )
  shift End (many t c g) a b s h d = tested t s.0 a b true h d
  shift (Final x) (many t c g) a b s h d = (
    tested t s.0 (flat x ++ a) (flat x ++ b) false (ahead x g a a b d.1 h) d.0,
    shift x g a b s.1 h d.1,
    sym ((blind_sign c).by 0 h.0 a b h.1) ∙ d.2,
  )
  shift (More x m spacing y) (many t c g) a b s h d =
      let k = ahead y (many t c g) a a b d.3 h in
      let j : Same (Punct m spacing ∷ flat y ++ a) (Punct m spacing ∷ flat y ++ b) = (
        suc k.0,
        sign m spacing k.1,
      ) in (
        tested t s.0 (flat x ++ Punct m spacing ∷ flat y ++ a) (flat x ++ Punct m spacing ∷ flat y ++ b) false
            (joined (flat x) (Punct m spacing ∷ flat y) (Punct m spacing ∷ flat y) a b
            (ahead x g (Punct m spacing ∷ flat y ++ a) (Punct m spacing ∷ flat y ++ a) (Punct m spacing ∷ flat y ++ b)
            d.2 j)) d.0,
        d.1,
        shift x g (Punct m spacing ∷ flat y ++ a) (Punct m spacing ∷ flat y ++ b) s.1 j d.2,
        shift y (many t c g) a b s h d.3,
      )
  shift (Group f x) (group o g) a b s h d = d
  shift (First x) (judged v g) a b s h d = (d.0, shift x g a b s h d.1)
  shift (Verbatim x) (judged v g) a b s h d = (d.0, shift x g a b s h d.1)
  shift (Dropped x) (dropped g) a b s h d = shift x g a b s h d
  shift (Called n x) (called m g) a b s h d = (d.0, shift x g a b s h d.1)
  shift (Node k x) (ref l) a b s h d =
      (d.0, shift x (table k) a b (steady_table k (ap is_steady d.0 ∙ s)) h d.1)
  shift (Whole x) (operand p n) a b s h d =
      ((d.0.0, still p n x a b h d.0.1), shift_bound x p a b h d.1)
  shift _ _ a b s h d = absurd d

  shift_bound : (x : Tree) (p : Position) (a b : List Token) → Same a b → Bound p x a → Bound p x b
  shift_bound (Alone k y) p a b h d = (
    front_there y k p a b d.1 h d.0,
    shift y (table k) a b (steady_table k (front_steady p (flat y ++ a) k d.0)) h d.1,
    sym (right_same 0 h.0 a b h.1 p k) ∙ d.2,
  )
  shift_bound (Front k y x) p a b h d =
      let u = ahead (Whole x) (operand (inside p k) (level k)) a a b (d.3, d.4) h in (
        front_there y k p (flat x ++ a) (flat x ++ b) d.1 u d.0,
        shift y (table k) (flat x ++ a) (flat x ++ b)
            (steady_table k (front_steady p (flat y ++ (flat x ++ a)) k d.0)) u d.1,
        sym (right_same 0 u.0 (flat x ++ a) (flat x ++ b) u.1 p k) ∙ d.2,
        (d.3.0, still (inside p k) (level k) x a b h d.3.1),
        shift_bound x (inside p k) a b h d.4,
      )
  shift_bound (Back l k y) p a b h d =
      let j = ahead y (table k) a a b d.1 h in (
        sym (back_same 0 j.0 (flat y ++ a) (flat y ++ b) j.1 p) ∙ d.0,
        shift y (table k) a b (steady_table k (back_steady p (flat y ++ a) k d.0)) h d.1,
        sym (right_same 0 h.0 a b h.1 p k) ∙ d.2,
        d.3,
        shift_bound l p (flat y ++ a) (flat y ++ b) j d.4,
      )
  shift_bound (Infix l k y r) p a b h d =
      let u = ahead (Whole r) (operand (inside p k) (level k)) a a b (d.5, d.6) h in
      let j = ahead y (table k) (flat r ++ a) (flat r ++ a) (flat r ++ b) d.1 u in (
        sym (back_same 0 j.0 (flat y ++ (flat r ++ a)) (flat y ++ (flat r ++ b)) j.1 p) ∙ d.0,
        shift y (table k) (flat r ++ a) (flat r ++ b)
            (steady_table k (back_steady p (flat y ++ (flat r ++ a)) k d.0)) u d.1,
        sym (right_same 0 u.0 (flat r ++ a) (flat r ++ b) u.1 p k) ∙ d.2,
        d.3,
        shift_bound l p (flat y ++ (flat r ++ a)) (flat y ++ (flat r ++ b)) j d.4,
        (d.5.0, still (inside p k) (level k) r a b h d.5.1),
        shift_bound r (inside p k) a b h d.6,
      )
  shift_bound _ p a b h d = absurd d

-- what ends in one
end_mark : (c : ℕ) (cs : List ℕ) (spacing : Spacing) (r s : List Token) → c ≡ 59 → cs ≡ []
    → Same (marks c cs spacing ++ r) (marks c cs spacing ++ s)
end_mark c cs spacing r s e f =
    subst (λ n. Same (marks n cs spacing ++ r) (marks n cs spacing ++ s)) (sym e)
    (subst (λ ns. Same (marks 59 ns spacing ++ r) (marks 59 ns spacing ++ s)) (sym f) (0, semicolon spacing spacing))

pub end_group : (d : Delimiter) (xs r s : List Token) → d ≡ Brace
    → Same (Opens d ∷ (xs ++ r)) (Opens d ∷ (xs ++ s))
end_group d xs r s e = subst (λ f. Same (Opens f ∷ (xs ++ r)) (Opens f ∷ (xs ++ s))) (sym e) (0, brace)

pub ended : (x : Tree) (g : Gram) (r s : List Token) → Ended g → Derives x g r
    → Same (flat x ++ r) (flat x ++ s) × Derives x g s
ended (AMark c cs spacing) (mark f fs) r s i d = (end_mark c cs spacing r s (d.0 ∙ i.0) (d.1 ∙ i.1), d)
ended (Pair x y) (seq f g) r s i d =
    let k = ended y g r s i.1 d.1 in (
      joined (flat x) (flat y) (flat y) r s (ahead x f (flat y ++ r) (flat y ++ r) (flat y ++ s) d.0 k.0),
      (shift x f (flat y ++ r) (flat y ++ s) i.0 k.0 d.0, k.1),
    )
ended (First x) (alt t f g) r s i d =
    let k = ended x f r s i.1 d.1 in (k.0, (tested t i.0 (flat x ++ r) (flat x ++ s) true k.0 d.0, k.1))
ended (Second x) (alt t f g) r s i d =
    let k = ended x g r s i.2 d.1 in (k.0, (tested t i.0 (flat x ++ r) (flat x ++ s) false k.0 d.0, k.1))
ended (Group f x) (group o g) r s i d = (end_group f (flat x ++ Closes f ∷ []) r s (d.0 ∙ i), d)
ended (First x) (judged v g) r s i d = let k = ended x g r s i.1 d.1 in (k.0, (d.0, k.1))
ended (Verbatim x) (judged v g) r s i d = let k = ended x g r s i.1 d.1 in (k.0, (d.0, k.1))
ended (Called n x) (called m g) r s i d = let k = ended x g r s i d.1 in (k.0, (d.0, k.1))
ended (Node k x) (ref l) r s i d =
    let j = ended x (table k) r s (ended_table k (ap is_ended d.0 ∙ i)) d.1 in (j.0, (d.0, j.1))
ended _ (word p) r s i d = absurd i
ended _ (literal p) r s i d = absurd i
ended _ lifetime r s i d = absurd i
ended _ raw r s i d = absurd i
ended _ nothing r s i d = absurd i
ended _ (star t g) r s i d = absurd i
ended _ (many t c g) r s i d = absurd i
ended _ (dropped g) r s i d = absurd i
ended _ (operand p n) r s i d = absurd i
ended _ _ r s i d = absurd d

-- items, raw or not
pub item_stays : (k : Kind) (x : Tree) (r s : List Token) → is_any_item k ≡ true → Derives x
    (ref k) r
    → Derives x (ref k) s
item_stays AnItem x r s i d = (ended x (ref AnItem) r s refl d).1
item_stays AForeignItem x r s i d = (ended x (ref AForeignItem) r s refl d).1
item_stays ATraitItem x r s i d = (ended x (ref ATraitItem) r s refl d).1
item_stays AnImplItem x r s i d = (ended x (ref AnImplItem) r s refl d).1
item_stays _ x r s i d = no_kind i

-- raw ones are kept as they are in normal form
raw_same : (k : Kind) (x : Tree) → is_any_item k ≡ true
    → kept (Node k (Verbatim x)) ≡ normal (kept (Node k (Verbatim x)))
unfolding held passed
raw_same AnItem x i = refl
raw_same AForeignItem x i = refl
raw_same ATraitItem x i = refl
raw_same AnImplItem x i = refl
raw_same _ x i = no_kind i

raw_flat : (k : Kind) (x : Tree) → is_any_item k ≡ true → flat x ≡ flat (kept (Node k (Verbatim x)))
raw_flat AnItem x i = refl
raw_flat AForeignItem x i = refl
raw_flat ATraitItem x i = refl
raw_flat AnImplItem x i = refl
raw_flat _ x i = no_kind i

pub raw_back : (k : Kind) (x : Tree) (r s : List Token) → is_any_item k ≡ true
    → Derives (Node k (Verbatim x)) (ref k) r
    → IsRead k (flat (normal (kept (Node k (Verbatim x)))) ++ s) (normal (kept (Node k (Verbatim x)))) s
raw_back k x r s i d = record {
  tree = Node k (Verbatim x);
  derived = item_stays k (Node k (Verbatim x)) r s i d;
  spelled = ap (λ ts. ts ++ s) (raw_flat k x i ∙ ap flat (raw_same k x i));
  kept_is = raw_same k x i;
}
