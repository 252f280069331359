-- What stands in forms with an operand before them, and in a statement that is an expression, by the form of trees.
use Rattle.std.specs.Prelude.{◌≡◌, ◌≢◌, ℕ, zero, suc, ◌+◌, ◌-◌, ◌<◌, ◌≤◌, ◌==◌, Bool, true, false, not, cond, nat_eq}
use Rattle.std.specs.Prelude.{List, [], ◌∷◌, Option, Some, None, length, refl}
use Rattle.std.proofs.Common.{ap, ◌∙◌, sym, arith}
use Rattle.std.proofs.lemmas.Bool.{ne_eqb}
use Rattle.rust_leaf.specs.declared.punct.Spacing.{Spacing}
use Rattle.syn_grammar.specs.Kind.{Kind, Position, Expression, OuterAttributes, ExprCast}
use Rattle.syn_grammar.specs.Name.{the_attributes, the_expression}
use Rattle.syn_grammar.specs.Forms.{level}
use Rattle.syn_grammar.specs.Tree as t
use Rattle.syn_grammar.specs.Tree.{Tree}
use Rattle.reader_tree.specs.declared.tree.Element.{Element}
use Rattle.reader_tree.specs.declared.tree.Tree.TheDeep.{size-Tree}
use Rattle.reader_tree.specs.Forms.{mark_of, seconds, turns, elements, ending}
use Rattle.reader_tree.specs.Shapes.{is_turns, node_of, pair_of, whole_of}
use Rattle.reader_tree.specs.Size.{node_count}
use Rattle.reader_tree.proofs.Sizes.{tree_size}
use Rattle.writer_rules.specs.Operands.{back_of, before_of, expression_of, first_behind, form_in, giving_of, infix_of}
use Rattle.writer_rules.specs.Laid.{has_attributes}
use Rattle.writer_rules.specs.Operands.{pair_behind, stated_of}
use Rattle.writer_rules.proofs.SeenForms.{node_is, pair_is, same_pair, some_none}

-- which tree it is
same_three : {A B C : Type 0} (a d : A) (b e : B) (c f : C)
    → ◌≡◌ {A = Option (A × B × C)} (Some (a, b, c)) (Some (d, e, f)) → (a ≡ d) × (b ≡ e) × (c ≡ f)
same_three {A = A} {B = B} {C = C} a d b e c f h =
    let p : A × B × C = (a, b, c) in
    let r : A × B × C = (d, e, f) in
    let q : p ≡ r = cc in
    (ap (λ (v : A × B × C). v.0) q, ap (λ (v : A × B × C). v.1) q, ap (λ (v : A × B × C). v.2) q)

same_four : (j k : Kind) (a b c d e f : Tree)
    → ◌≡◌ {A = Option (Kind × Tree × Tree × Tree)} (Some (j, a, b, c)) (Some (k, d, e, f))
    → (j ≡ k) × (a ≡ d) × (b ≡ e) × (c ≡ f)
same_four j k a b c d e f h =
    let p : Kind × Tree × Tree × Tree = (j, a, b, c) in
    let r : Kind × Tree × Tree × Tree = (k, d, e, f) in
    let q : p ≡ r = cc in (
      ap (λ (v : Kind × Tree × Tree × Tree). v.0) q,
      ap (λ (v : Kind × Tree × Tree × Tree). v.1) q,
      ap (λ (v : Kind × Tree × Tree × Tree). v.2) q,
      ap (λ (v : Kind × Tree × Tree × Tree). v.3) q,
    )

pub infix_is : (x : Tree) (k : Kind) (l y r : Tree) → Some (k, l, y, r) ≡ infix_of x → x ≡ t.Infix l k y r
infix_is (t.Infix m j z w) k l y r e = let s = same_four k j l y r m z w e in cc (s.0, s.1, s.2, s.3)
infix_is x k l y r e = absurd (some_none (k, l, y, r) e)

pub back_is : (x : Tree) (k : Kind) (l y : Tree) → Some (k, l, y) ≡ back_of x → x ≡ t.Back l k y
back_is (t.Back m j z) k l y e = let s = same_three k j l m y z e in cc (s.0, s.1, s.2)
back_is x k l y e = absurd (some_none (k, l, y) e)

-- the left operand that attributes in front are given to
range_keeps : (k : Kind) (l y r : Tree) → level k ≡ 3 → None ≡ giving_of (t.Infix l k y r)
range_keeps k l y r h = ap (λ n. cond (nat_eq n 3) None (Some (k, l))) (sym h)

infix_gives : (k : Kind) (l y r : Tree) → level k ≢ 3 → Some (k, l) ≡ giving_of (t.Infix l k y r)
infix_gives k l y r h = ap (λ b. cond b None (Some (k, l))) (sym (ne_eqb (level k) 3 h))

cast_gives : (k : Kind) (l y : Tree) → level k ≡ 14 → Some (k, l) ≡ giving_of (t.Back l k y)
unfolding level
cast_gives ExprCast l y h = refl
cast_gives k l y h = absurd (omega (arith, h))

back_keeps : (k : Kind) (l y : Tree) → level k ≢ 14 → None ≡ giving_of (t.Back l k y)
unfolding level
back_keeps ExprCast l y h = absurd (h refl)
back_keeps k l y h = refl

pub giving_range : (x : Tree) (k : Kind) (l y r : Tree) → Some (k, l, y, r) ≡ infix_of x → level k ≡ 3
    → None ≡ giving_of x
giving_range x k l y r e h = range_keeps k l y r h ∙ ap giving_of (sym (infix_is x k l y r e))

pub giving_infix : (x : Tree) (k : Kind) (l y r : Tree) → Some (k, l, y, r) ≡ infix_of x → level k ≢ 3
    → Some (k, l) ≡ giving_of x
giving_infix x k l y r e h = infix_gives k l y r h ∙ ap giving_of (sym (infix_is x k l y r e))

pub giving_cast : (x : Tree) (k : Kind) (l y : Tree) → Some (k, l, y) ≡ back_of x → level k ≡ 14
    → Some (k, l) ≡ giving_of x
giving_cast x k l y e h = cast_gives k l y h ∙ ap giving_of (sym (back_is x k l y e))

pub giving_back : (x : Tree) (k : Kind) (l y : Tree) → Some (k, l, y) ≡ back_of x → level k ≢ 14
    → None ≡ giving_of x
giving_back x k l y e h = back_keeps k l y h ∙ ap giving_of (sym (back_is x k l y e))

pub giving_none : (x : Tree) → None ≡ infix_of x → None ≡ back_of x → None ≡ giving_of x
giving_none (t.Infix l k y r) e h = cc
giving_none (t.Back l k y) e h = cc
giving_none x e h = refl

pub ruleset givings = (giving_range, giving_infix, giving_cast, giving_back, giving_none)

-- attributes, at least one
turns_given : (x : Tree) → is_turns x ≡ has_attributes (t.Node OuterAttributes x)
turns_given (t.Again x y) = refl
turns_given x = refl

turns_some : (xs : List Tree) → not (length xs == 0) ≡ is_turns (turns xs)
turns_some [] = refl
turns_some (x ∷ xs) = ap not (ne_eqb (suc (length xs)) 0 (λ e. omega (arith, e)))

pub given_turns : (x y : Tree) (xs : List Tree) → Some (OuterAttributes, y) ≡ node_of x → y ≡ turns xs
    → not (length xs == 0) ≡ has_attributes x
given_turns x y xs e h =
    turns_some xs ∙ ap is_turns (sym h) ∙ turns_given y ∙ ap has_attributes (sym (node_is x OuterAttributes y e))

pub given_none : (x y : Tree) → Some (OuterAttributes, y) ≡ node_of x → is_turns y ≡ false → false ≡ has_attributes x
given_none x y e h = sym h ∙ turns_given y ∙ ap has_attributes (sym (node_is x OuterAttributes y e))

pub ruleset givens = (given_turns, given_none)

-- behind seconds
pub pair_seconds : (x : Tree) (n m : ℕ) → m < n → pair_behind x (n - 1 - m) ≡ pair_behind (t.Second (seconds m x)) n
pair_seconds x zero m h = absurd (omega (arith, h))
pair_seconds x (suc n) zero h = let same : suc n - 1 - 0 ≡ n = omega arith in ap (λ k. pair_behind x k) same
pair_seconds x (suc n) (suc m) h =
    let less : m < n = omega (arith, h) in
    let same : suc n - 1 - suc m ≡ n - 1 - m = omega arith in
    ap (λ k. pair_behind x k) same ∙ pair_seconds x n m less

pub pair_short : (x : Tree) (n m : ℕ) → n ≤ m → None ≡ pair_behind (t.Second (seconds m x)) n
pair_short x zero m h = refl
pair_short x (suc n) zero h = absurd (omega (arith, h))
pair_short x (suc n) (suc m) h = let less : n ≤ m = omega (arith, h) in pair_short x n m less

pub pair_first : (x : Tree) (n m : ℕ) → pair_behind (seconds m (t.First x)) n ≡ None
pair_first x n zero = refl
pair_first x zero (suc m) = refl
pair_first x (suc n) (suc m) = pair_first x n m

pub pair_here : (x y : Tree) (n : ℕ) → n ≡ 0 → Some (x, y) ≡ pair_behind (t.Pair x y) n
pair_here x y n h = ap (λ k. pair_behind (t.Pair x y) k) (sym h)

pub pair_other : (x y : Tree) (n : ℕ) → n ≢ 0 → None ≡ pair_behind (t.Pair x y) n
pair_other x y zero h = absurd (h refl)
pair_other x y (suc n) h = refl

pub pair_mark : (n : ℕ) (cs : List ℕ) (spacing : Spacing) → pair_behind (mark_of cs spacing) n ≡ None
pair_mark n [] spacing = refl
pair_mark n (c ∷ cs) spacing = refl

pub pair_turns : (n : ℕ) (xs : List Tree) → pair_behind (turns xs) n ≡ None
pair_turns n [] = refl
pair_turns n (x ∷ xs) = refl

pub pair_elements : {A : Type 0} (n c : ℕ) (es : List Element) (f : A → Tree) (o : Option A)
    → pair_behind (elements c es (ending f o)) n ≡ None
pair_elements n c [] f None = refl
pair_elements n c [] f (Some y) = refl
pair_elements n c (e ∷ es) f o = refl

pub ruleset pairs_behind =
    (pair_seconds, pair_short, pair_first, pair_here, pair_other, pair_mark, pair_turns, pair_elements)

pub first_seconds : (x : Tree) (n m : ℕ) → m < n → first_behind x (n - 1 - m) ≡ first_behind (t.Second (seconds m x)) n
first_seconds x zero m h = absurd (omega (arith, h))
first_seconds x (suc n) zero h = let same : suc n - 1 - 0 ≡ n = omega arith in ap (λ k. first_behind x k) same
first_seconds x (suc n) (suc m) h =
    let less : m < n = omega (arith, h) in
    let same : suc n - 1 - suc m ≡ n - 1 - m = omega arith in
    ap (λ k. first_behind x k) same ∙ first_seconds x n m less

pub first_short : (x : Tree) (n m : ℕ) → n ≤ m → None ≡ first_behind (t.Second (seconds m x)) n
first_short x zero m h = refl
first_short x (suc n) zero h = absurd (omega (arith, h))
first_short x (suc n) (suc m) h = let less : n ≤ m = omega (arith, h) in first_short x n m less

first_at : (x : Tree) (n : ℕ) → Some x ≡ first_behind (seconds n (t.First x)) n
first_at x zero = refl
first_at x (suc n) = first_at x n

pub first_here : (x : Tree) (n m : ℕ) → m ≡ n → Some x ≡ first_behind (seconds m (t.First x)) n
first_here x n m e = first_at x m ∙ ap (λ k. first_behind (seconds m (t.First x)) k) e

pub first_other : (x : Tree) (n m : ℕ) → m ≢ n → None ≡ first_behind (seconds m (t.First x)) n
first_other x zero zero h = absurd (h refl)
first_other x zero (suc m) h = refl
first_other x (suc n) zero h = refl
first_other x (suc n) (suc m) h = first_other x n m (λ e. h (ap suc e))

pub first_mark : (n : ℕ) (cs : List ℕ) (spacing : Spacing) → first_behind (mark_of cs spacing) n ≡ None
first_mark n [] spacing = refl
first_mark n (c ∷ cs) spacing = refl

pub first_turns : (n : ℕ) (xs : List Tree) → first_behind (turns xs) n ≡ None
first_turns n [] = refl
first_turns n (x ∷ xs) = refl

pub first_elements : {A : Type 0} (n c : ℕ) (es : List Element) (f : A → Tree) (o : Option A)
    → first_behind (elements c es (ending f o)) n ≡ None
first_elements n c [] f None = refl
first_elements n c [] f (Some y) = refl
first_elements n c (e ∷ es) f o = refl

pub ruleset firsts_behind =
    (first_seconds, first_short, first_here, first_other, first_mark, first_turns, first_elements)

-- the form of an expression
form_whole : (p : Position) (x : Tree) → whole_of x ≡ form_in (t.Node (Expression p) x)
form_whole p (t.Whole x) = refl
form_whole p x = refl

pub form_inside : (x y : Tree) (p : Position) → Some (Expression p, y) ≡ node_of x → whole_of y ≡ form_in x
form_inside x y p e = form_whole p y ∙ ap form_in (sym (node_is x (Expression p) y e))

pub ruleset forms_in = (form_inside)

-- a statement that is an expression
pub behind_is : (x y z : Tree) → Some (y, z) ≡ pair_behind x 4
    → x ≡ t.Second (t.Second (t.Second (t.Second (t.Pair y z))))
behind_is (t.Second (t.Second (t.Second (t.Second (t.Pair v w))))) y z e =
    let s = same_pair y v z w e in cc (s.0, s.1)
behind_is x y z e = absurd (some_none (y, z) e)

before_is : (x y : Tree) → Some y ≡ before_of x → x ≡ t.Called the_attributes y
before_is (t.Called the_attributes z) y e = cc
before_is x y e = absurd (some_none y e)

expression_is : (x y : Tree) → Some y ≡ expression_of x → x ≡ t.Called the_expression y
expression_is (t.Called the_expression z) y e = cc
expression_is x y e = absurd (some_none y e)

form_is : (x y : Tree) → Some y ≡ form_in x → (p : Position) × (x ≡ t.Node (Expression p) (t.Whole y))
form_is (t.Node (Expression p) (t.Whole z)) y e = (p, cc)
form_is x y e = absurd (some_none y e)

abbrev fourth : Tree → Tree
fourth x = t.Second (t.Second (t.Second (t.Second x)))

no_before : (a b : Tree) → None ≡ before_of a → None ≡ stated_of (fourth (t.Pair a b))
no_before (t.Called the_attributes x) b e = cc
no_before a b e = refl

no_pair : (a b : Tree) → None ≡ pair_of b → None ≡ stated_of (fourth (t.Pair (t.Called the_attributes a) b))
no_pair a (t.Pair x y) e = cc
no_pair a b e = refl

no_expression : (a b c : Tree) → None ≡ expression_of b
    → None ≡ stated_of (fourth (t.Pair (t.Called the_attributes a) (t.Pair b c)))
no_expression a (t.Called the_expression x) c e = cc
no_expression a b c e = refl

no_form : (a b c : Tree) → None ≡ form_in b
    → None ≡ stated_of (fourth (t.Pair (t.Called the_attributes a) (t.Pair (t.Called the_expression b) c)))
no_form a (t.Node (Expression p) (t.Whole x)) c e = cc
no_form a b c e = refl

pub stated_pair : (x : Tree) → None ≡ pair_behind x 4 → None ≡ stated_of x
stated_pair (t.Second (t.Second (t.Second (t.Second (t.Pair a b))))) e = cc
stated_pair x e = refl

pub stated_before : (x a b : Tree) → Some (a, b) ≡ pair_behind x 4 → None ≡ before_of a → None ≡ stated_of x
stated_before x a b e f = no_before a b f ∙ ap stated_of (sym (behind_is x a b e))

pub stated_named : (x a b c : Tree) → Some (a, b) ≡ pair_behind x 4 → Some c ≡ before_of a → None ≡ pair_of b
    → None ≡ stated_of x
stated_named x a b c e f g =
    no_pair c b g ∙ ap (λ z. stated_of (fourth (t.Pair z b))) (sym (before_is a c f))
    ∙ ap stated_of (sym (behind_is x a b e))

three_is : (x a b c d s : Tree) → Some (a, b) ≡ pair_behind x 4 → Some c ≡ before_of a → Some (d, s) ≡ pair_of b
    → x ≡ fourth (t.Pair (t.Called the_attributes c) (t.Pair d s))
three_is x a b c d s e f g =
    behind_is x a b e ∙ ap (λ z. fourth (t.Pair z b)) (before_is a c f)
    ∙ ap (λ z. fourth (t.Pair (t.Called the_attributes c) z)) (pair_is b d s g)

pub stated_unnamed : (x a b c d s : Tree) → Some (a, b) ≡ pair_behind x 4 → Some c ≡ before_of a
    → Some (d, s) ≡ pair_of b → None ≡ expression_of d → None ≡ stated_of x
stated_unnamed x a b c d s e f g h =
    no_expression c d s h ∙ ap stated_of (sym (three_is x a b c d s e f g))

four_is : (x a b c d s y : Tree) → Some (a, b) ≡ pair_behind x 4 → Some c ≡ before_of a → Some (d, s) ≡ pair_of b
    → Some y ≡ expression_of d
    → x ≡ fourth (t.Pair (t.Called the_attributes c) (t.Pair (t.Called the_expression y) s))
four_is x a b c d s y e f g h =
    three_is x a b c d s e f g
    ∙ ap (λ z. fourth (t.Pair (t.Called the_attributes c) (t.Pair z s))) (expression_is d y h)

pub stated_unformed : (x a b c d s y : Tree) → Some (a, b) ≡ pair_behind x 4 → Some c ≡ before_of a
    → Some (d, s) ≡ pair_of b → Some y ≡ expression_of d → None ≡ form_in y → None ≡ stated_of x
stated_unformed x a b c d s y e f g h i =
    no_form c y s i ∙ ap stated_of (sym (four_is x a b c d s y e f g h))

pub stated_form : (x a b c d s y z : Tree) → Some (a, b) ≡ pair_behind x 4 → Some c ≡ before_of a
    → Some (d, s) ≡ pair_of b → Some y ≡ expression_of d → Some z ≡ form_in y → Some (c, z, s) ≡ stated_of x
stated_form x a b c d s y z e f g h i =
    let w = form_is y z i in
    ap (λ v. stated_of (fourth (t.Pair (t.Called the_attributes c) (t.Pair (t.Called the_expression v) s)))) (sym w.1)
    ∙ ap stated_of (sym (four_is x a b c d s y e f g h))

pub ruleset stated =
    (stated_pair, stated_before, stated_named, stated_unnamed, stated_unformed, stated_form)

-- what stands in a statement, and left of a form, is smaller
pub stated_is : (x a z s : Tree) → Some (a, z, s) ≡ stated_of x → (p : Position) × (x ≡ fourth (t.Pair
    (t.Called the_attributes a) (t.Pair (t.Called the_expression (t.Node (Expression p) (t.Whole z))) s)))
stated_is (t.Second (t.Second (t.Second (t.Second (t.Pair (t.Called the_attributes b)
    (t.Pair (t.Called the_expression (t.Node (Expression p) (t.Whole y))) u)))))) a z s e =
    let w = same_three a b z y s u e in (p, cc (w.0, w.1, w.2))
stated_is x a z s e = absurd (some_none (a, z, s) e)

pub stated_below : (x a z s : Tree) → Some (a, z, s) ≡ stated_of x
    → size-Tree a + size-Tree z + size-Tree s < size-Tree x
stated_below x a z s e =
    omega (arith, ap node_count (stated_is x a z s e).1, tree_size a, tree_size z, tree_size s, tree_size x)

giving_in : (x : Tree) (k : Kind) (l : Tree) → Some (k, l) ≡ giving_of x → node_count l < node_count x
giving_in (t.Infix m j y r) k l e = by (nat_eq (level j) 3) e
  where
    by : (b : Bool) → ◌≡◌ {A = Option (Kind × Tree)} (Some (k, l)) (cond b None (Some (j, m)))
        → node_count l < node_count (t.Infix m j y r)
    by true f = absurd (some_none (k, l) f)
    by false f = let s = same_pair k j l m f in omega (arith, ap node_count s.1)
giving_in (t.Back m ExprCast y) k l e = let s = same_pair k ExprCast l m e in omega (arith, ap node_count s.1)
giving_in x k l e = absurd (some_none (k, l) e)

pub giving_below : (x : Tree) (k : Kind) (l : Tree) → Some (k, l) ≡ giving_of x → size-Tree l < size-Tree x
giving_below x k l e = omega (arith, giving_in x k l e, tree_size l, tree_size x)

pub infix_below : (x : Tree) (k : Kind) (l y r : Tree) → Some (k, l, y, r) ≡ infix_of x
    → (size-Tree l < size-Tree x) × (size-Tree y < size-Tree x) × (size-Tree r < size-Tree x)
infix_below x k l y r e =
    let n = ap node_count (infix_is x k l y r e) in (
      omega (arith, n, tree_size l, tree_size x),
      omega (arith, n, tree_size y, tree_size x),
      omega (arith, n, tree_size r, tree_size x),
    )

pub back_below : (x : Tree) (k : Kind) (l y : Tree) → Some (k, l, y) ≡ back_of x
    → (size-Tree l < size-Tree x) × (size-Tree y < size-Tree x)
back_below x k l y e =
    let n = ap node_count (back_is x k l y e) in
    (omega (arith, n, tree_size l, tree_size x), omega (arith, n, tree_size y, tree_size x))
