-- Which alternative was chosen.
use Rattle.std.specs.Prelude.{◌≡◌, ◌<◌, ◌≤◌, ◌+◌, ◌-◌, ℕ, zero, suc, Bool, true}
use Rattle.std.specs.Prelude.{false, not, refl, List, [], ◌∷◌}
use Rattle.std.specs.Prelude.{Option, Some, None}
use Rattle.std.proofs.Common.{arith, ap, subst, sym}
use Rattle.syn_grammar.specs.Gram.{Gram, alt}
use Rattle.syn_grammar.specs.Tree.{Tree, First, Second}
use Rattle.rust_leaf.specs.declared.punct.Spacing.{Spacing}
use Rattle.reader_table.specs.Words.{sign_text}
use Rattle.reader_table.specs.Ops.{separator_of}
use Rattle.reader_tree.specs.Forms.{seconds, turns, elements, ending, mark_of, tree_of}
use Rattle.reader_tree.specs.declared.tree.Element.{Element}
use Rattle.reader_tree.specs.declared.tree.Form.{Form}
use Rattle.reader_tree.specs.declared.tree.Form.TheVariants as forms
use Rattle.node_shapes.specs.Shape.{IsShaped}
use Rattle.node_take.specs.Seqs.{among, is_choice, may_choose}
use Rattle.node_take.proofs.Takes.{shaped_first, shaped_second, not_both}

no_choice : (b : Bool) → not b ≡ true → b ≡ true → ⊥
no_choice true e d = cc
no_choice false e d = cc

-- so many seconds, and then the first

pub first_before : (count n : ℕ) (x : Tree) (g : Gram) → is_choice count g ≡ true
    → IsShaped (seconds n (First x)) g
    → n < count
first_before zero n x g c h = absurd (no_choice (may_choose g) c (shaped_first n x g h))
first_before (suc count) zero x (alt t a b) c h = omega arith
first_before (suc count) (suc n) x (alt t a b) c h = omega (arith, first_before count n x b c h)
first_before (suc count) n x _ c h = cc

pub first_among : (count n : ℕ) (x : Tree) → n < count → seconds n (First x) ≡ among count n x
first_among zero n x l = absurd (omega (arith, l))
first_among (suc count) zero x l = refl
first_among (suc count) (suc n) x l = ap Second (first_among count n x (omega (arith, l)))

-- the second, and so many seconds

pub second_before : (count n : ℕ) (x : Tree) (g : Gram) → is_choice count g ≡ true
    → IsShaped (Second (seconds n x)) g → n < count
second_before zero n x g c h = absurd (no_choice (may_choose g) c (shaped_second (seconds n x) g h))
second_before (suc count) zero x (alt t a b) c h = omega arith
second_before (suc count) (suc n) x (alt t a b) c h = omega (arith, second_before count n x b c h)
second_before (suc count) n x _ c h = cc

pub second_rest : (count n r : ℕ) (x : Tree) (g : Gram) → count ≡ n + 1 + r → is_choice count g ≡ true
    → IsShaped (Second (seconds n x)) g → (b : Gram) × (is_choice r b ≡ true) × IsShaped x b
second_rest zero n r x g e c h = absurd (omega (arith, e))
second_rest (suc count) zero r x (alt t a b) e c h =
    let q : count ≡ r = omega (arith, e) in (b, subst (λ m. is_choice m b ≡ true) q c, h)
second_rest (suc count) (suc n) r x (alt t a b) e c h = second_rest count n r x b (omega (arith, e)) c h
second_rest (suc count) n r x _ e c h = cc

pub second_among : (count n r m : ℕ) (x y : Tree) → count ≡ n + 1 + r → x ≡ among r m y
    → Second (seconds n x) ≡ among count (m + (n + 1)) y
second_among zero n r m x y e p = absurd (omega (arith, e))
second_among (suc count) zero r m x y e p =
    let q : r ≡ count = omega (arith, e) in
    let k : m + (0 + 1) ≡ suc m = omega arith in
    subst (λ j. Second x ≡ among (suc count) j y) (sym k) (ap Second (subst (λ j. x ≡ among j m y) q p))
second_among (suc count) (suc n) r m x y e p =
    let k : m + (suc n + 1) ≡ suc (m + (n + 1)) = omega arith in
    subst (λ j. Second (Second (seconds n x)) ≡ among (suc count) j y) (sym k)
    (ap Second (second_among count n r m x y (omega (arith, e)) p))

-- of a choice one was chosen

abbrev pub is_chosen : Tree → Bool
is_chosen (First x) = true
is_chosen (Second x) = true
is_chosen _ = false

pub shaped_chosen : (count : ℕ) (x : Tree) (g : Gram) → (count ≡ 0 → ⊥)
    → is_choice count g ≡ true → IsShaped x g
    → is_chosen x ≡ true
shaped_chosen zero x g n c h = absurd (n refl)
shaped_chosen (suc count) (First x) (alt t a b) n c h = refl
shaped_chosen (suc count) (Second x) (alt t a b) n c h = refl
shaped_chosen (suc count) _ (alt t a b) n c h = absurd h
shaped_chosen (suc count) x _ n c h = cc

mark_chosen : (cs : List ℕ) (spacing : Spacing) → is_chosen (mark_of cs spacing) ≡ false
mark_chosen [] spacing = refl
mark_chosen (c ∷ cs) spacing = refl

turns_chosen : (xs : List Tree) → is_chosen (turns xs) ≡ false
turns_chosen [] = refl
turns_chosen (x ∷ xs) = refl

elements_chosen : {A : Type 0} (c : ℕ) (es : List Element) (f : A → Tree) (o : Option A)
    → is_chosen (elements c es (ending f o)) ≡ false
elements_chosen c [] f None = refl
elements_chosen c [] f (Some x) = refl
elements_chosen c (x ∷ es) f o = refl

-- a form that is neither of both is none
pub form_chosen : (f : Form) → ((n : ℕ) (b : _) → f ≡ forms.First n b → ⊥)
    → ((n : ℕ) (b : _) → f ≡ forms.Second n b → ⊥) → is_chosen (tree_of f) ≡ false
form_chosen (forms.First n b) d e = absurd (d n b refl)
form_chosen (forms.Second n b) d e = absurd (e n b refl)
form_chosen (forms.Mark s spacing span) d e = mark_chosen (sign_text s) spacing
form_chosen (forms.Turns v) d e = turns_chosen v.now.each.now
form_chosen (forms.Elements l) d e =
    elements_chosen (separator_of l.now.separator) l.now.before.now (λ b. b.now) l.now.last
form_chosen _ d e = refl

pub ruleset chosen = (first_before, first_among, second_before, second_rest, second_among)
