-- What is left of two trees of one sort.
use Rattle.std.specs.Prelude.{◌≡◌, ◌↔◌, ◌+◌, ◌-◌, ◌<◌, ◌≤◌, ◌⊎◌, ℕ, zero, suc}
use Rattle.std.specs.Prelude.{List, [], ◌∷◌}
use Rattle.std.specs.Prelude.{Option, Some, None}
use Rattle.std.proofs.Common.{ap, ap₂, arith, refl, subst, sym, ◌∙◌, inl, inr}
use denote.Ref.{Bor}
use Rattle.syn_grammar.specs.Tree as t
use Rattle.syn_grammar.specs.Tree.{Tree}
use Rattle.reader_tree.specs.declared.tree.Element.{Element}
use Rattle.reader_tree.specs.Forms.{elements, ending, seconds, turns}
use Rattle.reader_tree.specs.Size.{node_count}
use Rattle.tree_equal.specs.Rest.{Decides, both_count}
use Rattle.tree_equal.specs.declared.rest.Rest.{Rest}
use Rattle.tree_equal.specs.declared.rest.Rest.TheVariants as rest

-- what is left of two trees is left of two others that are one exactly if these are, and no smaller
pub carried : (a b c d : Tree) → ((c ≡ d) ↔ (a ≡ b)) → both_count a b ≤ both_count c d → (r : Rest) → Decides a b r
    → Decides c d r
carried a b c d e s (rest.Told same) h = (λ t. e.1 (h.0 t), λ f. h.1 (e.0 f))
carried a b c d e s (rest.One x y) h = ((λ f. h.0.0 (e.0 f), λ f. e.1 (h.0.1 f)), omega (arith, h.1))
carried a b c d e s (rest.Two x y u v) h = ((λ f. h.0.0 (e.0 f), λ f. e.1 (h.0.1 f)), omega (arith, h.1))
carried a b c d e s (rest.Three x y u v p q) h = ((λ f. h.0.0 (e.0 f), λ f. e.1 (h.0.1 f)), omega (arith, h.1))
carried a b c d e s (rest.Turns x y) h = ((λ f. h.0.0 (e.0 f), λ f. e.1 (h.0.1 f)), omega (arith, h.1))
carried a b c d e s (rest.Elements x y) h =
    ((λ f. h.0.0 (e.0 f), λ f. e.1 (h.0.1 f)), omega (arith, h.1), omega (arith, h.2))

-- of trees behind seconds
pub count_seconds : (n : ℕ) (x : Tree) → node_count (seconds n x) ≡ n + node_count x
count_seconds zero x = omega arith
count_seconds (suc n) x = omega (arith, count_seconds n x)

one_second : (n : ℕ) (x y : Tree) → seconds n x ≡ seconds n y → x ≡ y
one_second zero x y e = e
one_second (suc n) x y e = one_second n x y cc

second_last : (n : ℕ) (x : Tree) → seconds n (t.Second x) ≡ t.Second (seconds n x)
second_last zero x = refl
second_last (suc n) x = ap t.Second (second_last n x)

deeper : (m n : ℕ) (x : Tree) → m < n → seconds n x ≡ t.Second (seconds m (seconds (n - m - 1) x))
deeper zero zero x h = absurd (omega arith)
deeper zero (suc n) x h = let e : suc n - 0 - 1 ≡ n = omega arith in rw e refl
deeper (suc m) zero x h = absurd (omega arith)
deeper (suc m) (suc n) x h =
    let e : suc n - suc m - 1 ≡ n - m - 1 = omega arith in
    let i : m < n = omega arith in rw e (ap t.Second (deeper m n x i))

one_first : (n m : ℕ) (x y : Tree) → seconds n (t.First x) ≡ seconds m (t.First y) → (n ≡ m) × (x ≡ y)
one_first zero zero x y e = (refl, cc)
one_first zero (suc m) x y e = cc
one_first (suc n) zero x y e = cc
one_first (suc n) (suc m) x y e = let i = one_first n m x y cc in (ap suc i.0, i.1)

-- a first is no second, however many stand before it
pub no_first : (n m : ℕ) (x y : Tree) → n ≤ m → seconds n (t.First x) ≡ t.Second (seconds m y) → ⊥
no_first zero m x y h e = cc
no_first (suc n) zero x y h e = absurd (omega arith)
no_first (suc n) (suc m) x y h e = no_first n m x y (omega arith) cc

pub first_left : (n m : ℕ) (x y : Bor Tree) (b : Tree) → seconds m (t.First y.now) ≡ b → n ≡ m
    → Decides (seconds n (t.First x.now)) b (rest.One x y)
first_left n m x y b v e = (
  (λ d. (one_first n m x.now y.now (d ∙ sym v)).1, λ d. ap₂ (λ k z. seconds k (t.First z)) e d ∙ v),
  omega (arith, count_seconds n (t.First x.now), count_seconds m (t.First y.now), ap node_count v),
)

pub first_other : (n m : ℕ) (x y b : Tree) → seconds m (t.First y) ≡ b → (n ≡ m → ⊥) → seconds n (t.First x) ≡ b → ⊥
first_other n m x y b v h d = h (one_first n m x y (d ∙ sym v)).0

pub second_left : (n m : ℕ) (x y : Bor Tree) (b : Tree) → t.Second (seconds m y.now) ≡ b → n ≡ m
    → Decides (t.Second (seconds n x.now)) b (rest.One x y)
second_left n m x y b v e = (
  (
    λ d. one_second (suc m) x.now y.now (ap (λ k. seconds (suc k) x.now) (sym e) ∙ d ∙ sym v),
    λ d. ap₂ (λ k z. t.Second (seconds k z)) e d ∙ v,
  ),
  omega (arith, count_seconds n x.now, count_seconds m y.now, ap node_count v),
)

-- of more seconds and fewer, those that are more
behind : (n m : ℕ) (x y b : Tree) → m < n → t.Second (seconds m y) ≡ b → (seconds n x ≡ b) ↔ (seconds (n - m - 1) x ≡ y)
behind n m x y b h v = (
  λ d. one_second (suc m) (seconds (n - m - 1) x) y (sym (deeper m n x h) ∙ d ∙ sym v),
  λ d. deeper m n x h ∙ ap (λ z. t.Second (seconds m z)) d ∙ v,
)

behind_count : (n m : ℕ) (x y b : Tree) → m < n → t.Second (seconds m y) ≡ b
    → both_count (seconds (n - m - 1) x) y ≤ both_count (seconds n x) b
behind_count n m x y b h v = omega (
  arith,
  count_seconds n x,
  count_seconds (n - m - 1) x,
  count_seconds m y,
  ap
      node_count v,
)

pub first_behind : (n m : ℕ) (x y b : Tree) (r : Rest) → m < n → t.Second (seconds m y) ≡ b
    → Decides (seconds (n - m - 1) (t.First x)) y r → Decides (seconds n (t.First x)) b r
first_behind n m x y b r h v i = carried (seconds (n - m - 1) (t.First x)) y (seconds n (t.First x)) b
    (behind n m (t.First x) y b h v) (behind_count n m (t.First x) y b h v) r i

pub first_before : (n m : ℕ) (x y b : Tree) (r : Rest) → n < m → seconds m (t.First y) ≡ b
    → Decides (seconds (m - n - 1) (t.First y)) x r → Decides (t.Second (seconds n x)) b r
first_before n m x y b r h v i =
    let e = behind m n (t.First y) x (t.Second (seconds n x)) h refl in
    let s = behind_count m n (t.First y) x (t.Second (seconds n x)) h refl in
    carried (seconds (m - n - 1) (t.First y)) x (t.Second (seconds n x)) b
    (λ d. e.0 (v ∙ sym d), λ d. sym (e.1 d) ∙ v) (omega (arith, s, ap node_count v)) r i

pub second_behind : (n m : ℕ) (x y b : Tree) (r : Rest) → m < n → t.Second (seconds m y) ≡ b
    → Decides (t.Second (seconds (n - m - 1) x)) y r → Decides (t.Second (seconds n x)) b r
second_behind n m x y b r h v i =
    let f : Decides (seconds (n - m - 1) (t.Second x)) y r =
    subst (λ z. Decides z y r) (sym (second_last (n - m - 1) x)) i in
    subst (λ z. Decides z b r) (second_last n x)
    (carried (seconds (n - m - 1) (t.Second x)) y (seconds n (t.Second x)) b
    (behind n m (t.Second x) y b h v) (behind_count n m (t.Second x) y b h v) r f)

turned : (a b : Tree) (r : Rest) → Decides a b r → Decides b a r
turned a b r h = carried a b b a (λ d. sym d, λ d. sym d) (omega arith) r h

pub second_before : (n m : ℕ) (x y b : Tree) (r : Rest) → n < m → t.Second (seconds m y) ≡ b
    → Decides (t.Second (seconds (m - n - 1) y)) x r → Decides (t.Second (seconds n x)) b r
second_before n m x y b r h v i =
    subst (λ z. Decides (t.Second (seconds n x)) z r) v
    (turned (t.Second (seconds m y)) (t.Second (seconds n x)) r
    (second_behind m n y x (t.Second (seconds n x)) r h refl i))

-- of turns and of elements
one_turns : (xs ys : List Tree) → turns xs ≡ turns ys → xs ≡ ys
one_turns [] [] e = refl
one_turns [] (y ∷ ys) e = cc
one_turns (x ∷ xs) [] e = cc
one_turns (x ∷ xs) (y ∷ ys) e = let i = one_turns xs ys cc in let j : x ≡ y = cc in ap₂ (λ z zs. z ∷ zs) j i

pub turns_left : (xs ys : List Tree) (b : Tree) → turns ys ≡ b
    → ((turns xs ≡ b) ↔ (xs ≡ ys)) × (both_count (turns xs) (turns ys) ≤ both_count (turns xs) b)
turns_left xs ys b v = ((λ d. one_turns xs ys (d ∙ sym v), λ d. ap turns d ∙ v), omega (arith, ap node_count v))

one_element : (e f : Element) → e.tree ≡ f.tree → e.spacing ≡ f.spacing → e ≡ f
one_element e f d s = ap₂ (λ x p. record { tree = x; spacing = p }) d s

one_list : {A : Type 0} (f : A → Tree) (c : ℕ) (es fs : List Element) (x y : Option A)
    → elements c es (ending f x) ≡ elements c fs (ending f y) → (es ≡ fs) × (ending f x ≡ ending f y)
one_list f c [] [] x y e = (refl, e)
one_list f c [] (g ∷ fs) None y e = cc
one_list f c [] (g ∷ fs) (Some x) y e = cc
one_list f c (g ∷ es) [] x None e = cc
one_list f c (g ∷ es) [] x (Some y) e = cc
one_list f c (g ∷ es) (h ∷ fs) x y e =
    let i = one_list f c es fs x y cc in
    let p : g.tree ≡ h.tree = cc in
    let q : g.spacing ≡ h.spacing = cc in
    (ap₂ (λ z zs. z ∷ zs) (one_element g h p q) i.0, i.1)

-- of separators that differ, only a list without an element before its last
one_separator : {A : Type 0} (f : A → Tree) (c d : ℕ) (es fs : List Element) (x y : Option A) → (es ≡ [] ⊎ c ≡ d)
    → elements c es (ending f x) ≡ elements d fs (ending f y) → (es ≡ fs) × (ending f x ≡ ending f y)
one_separator f c d [] [] x y h e = (refl, e)
one_separator f c d [] (g ∷ fs) None y h e = cc
one_separator f c d [] (g ∷ fs) (Some x) y h e = cc
one_separator f c d (g ∷ es) fs x y (inl n) e = cc
one_separator f c d (g ∷ es) fs x y (inr n) e =
    one_list f c (g ∷ es) fs x y (e ∙ ap (λ k. elements k fs (ending f y)) (sym n))

same_list : {A : Type 0} (f : A → Tree) (c d : ℕ) (es fs : List Element) (x y : Option A) → (es ≡ [] ⊎ c ≡ d)
    → es ≡ fs → ending f x ≡ ending f y → elements c es (ending f x) ≡ elements d fs (ending f y)
same_list f c d es fs x y (inl n) e i =
    ap₂ (elements c) n i ∙ sym (ap (λ gs. elements d gs (ending f y)) (sym e ∙ n))
same_list f c d es fs x y (inr n) e i = ap₂ (elements c) e i ∙ ap (λ k. elements k fs (ending f y)) n

-- of separators that differ, lists with an element before the last
pub list_other : {A : Type 0} (f : A → Tree) (c d : ℕ) (es fs : List Element) (x y : Option A) → (es ≡ [] → ⊥)
    → (c ≡ d → ⊥) → elements c es (ending f x) ≡ elements d fs (ending f y) → ⊥
list_other f c d [] fs x y h i e = h refl
list_other f c d (g ∷ es) [] x None h i e = cc
list_other f c d (g ∷ es) [] x (Some y) h i e = cc
list_other f c d (g ∷ es) (k ∷ fs) x y h i e = i cc

count_before : (c : ℕ) (es : List Element) (y : Tree) → node_count (elements 0 es t.End) ≤ node_count (elements c es y)
count_before c [] (t.Pair x y) = omega arith
count_before c [] y = omega arith
count_before c (e ∷ es) y = omega (arith, count_before c es y)

count_last : (c : ℕ) (es : List Element) (y : Tree) → node_count y ≤ node_count (elements c es y)
count_last c [] y = omega arith
count_last c (e ∷ es) y = omega (arith, count_last c es y)

pub elements_left : {A : Type 0} (f : A → Tree) (c d : ℕ) (es fs : List Element) (x y : Option A) (b : Tree)
    → (es ≡ [] ⊎ c ≡ d) → elements d fs (ending f y) ≡ b
    → ((elements c es (ending f x) ≡ b) ↔ ((es ≡ fs) × (ending f x ≡ ending f y)))
    × (both_count (elements 0 es t.End) (elements 0 fs t.End) ≤ both_count (elements c es (ending f x)) b)
    × (both_count (ending f x) (ending f y) ≤ both_count (elements c es (ending f x)) b)
elements_left f c d es fs x y b h v = (
  (λ e. one_separator f c d es fs x y h (e ∙ sym v), λ e. same_list f c d es fs x y h e.0 e.1 ∙ v),
  omega (arith, count_before c es (ending f x), count_before d fs (ending f y), ap node_count v),
  omega (arith, count_last c es (ending f x), count_last d fs (ending f y), ap node_count v),
)

-- turns are a list only where there are none
pub no_elements : {A : Type 0} (f : A → Tree) (xs : List Tree) (c : ℕ) (es : List Element) (o : Option A)
    → turns xs ≡ elements c es (ending f o) → (xs ≡ []) × (es ≡ []) × (ending f o ≡ t.End)
no_elements f [] c [] None e = (refl, refl, refl)
no_elements f [] c [] (Some x) e = cc
no_elements f [] c (g ∷ es) o e = cc
no_elements f (x ∷ xs) c [] None e = cc
no_elements f (x ∷ xs) c [] (Some y) e = cc
no_elements f (x ∷ xs) c (g ∷ es) o e = cc

pub none_same : {A : Type 0} (f : A → Tree) (xs : List Tree) (c : ℕ) (es : List Element) (o : Option A)
    → (xs ≡ []) × (es ≡ []) × (ending f o ≡ t.End) → turns xs ≡ elements c es (ending f o)
none_same f xs c es o h = ap turns h.0 ∙ sym (ap₂ (elements c) h.1 h.2)
