-- Of several alternatives the one that was chosen; and that one of several punctuations is an alternative, and it is a
-- punctuation.
use Rattle.std.specs.Prelude.{◌≡◌, ◌<◌, ◌≤◌, ◌-◌, Bool, true, false, ℕ, zero, suc, List, [], ◌∷◌, Option}
use Rattle.std.specs.Prelude.{Some, None, length, refl, MatchOption}
use Rattle.std.proofs.Common.{arith, ap, subst, sym, ◌∙◌}
use Rattle.rust_leaf.specs.declared.punct.Spacing.{Spacing}
use Rattle.syn_grammar.specs.Gram.{mark, punct}
use Rattle.syn_grammar.specs.Say.{one_sign}
use Rattle.syn_grammar.specs.Tree as t
use Rattle.syn_grammar.specs.Tree.{Tree}
use Rattle.reader_tree.specs.declared.tree.Element.{Element}
use Rattle.reader_tree.specs.Forms.{mark_of, seconds, turns, elements, ending}
use Rattle.syn_part.specs.Shape.{IsShaped}
use Rattle.syn_expr.specs.ExprForms.{nth_tree}
use Rattle.syn_part.proofs.Absent.{shaped_never}
use denote.Bor.{Bor}

-- a choice
abbrev pub is_choice : Tree → Bool
is_choice (t.First x) = true
is_choice (t.Second x) = true
is_choice _ = false

pub nth_choice : (x : Tree) (n : ℕ) (y : Tree) → x ≡ nth_tree n y → is_choice x ≡ true
nth_choice x zero y e = ap is_choice e
nth_choice x (suc n) y e = ap is_choice e

pub mark_choice : (cs : List ℕ) (spacing : Spacing) → is_choice (mark_of cs spacing) ≡ false
mark_choice [] spacing = refl
mark_choice (c ∷ cs) spacing = refl

pub turns_choice : (xs : List Tree) → is_choice (turns xs) ≡ false
turns_choice [] = refl
turns_choice (x ∷ xs) = refl

pub elements_choice : {A : Type 0} (c : ℕ) (es : List Element) (f : A → Tree) (o : Option A)
    → is_choice (elements c es (ending f o)) ≡ false
elements_choice c [] f None = refl
elements_choice c [] f (Some x) = refl
elements_choice c (x ∷ es) f o = refl

abbrev inner : Tree → Tree
inner (t.Second x) = x
inner x = x

pub nth_same : (m n : ℕ) (x y : Tree) → seconds m (t.First x) ≡ nth_tree n y → m ≡ n
nth_same zero zero x y e = refl
nth_same zero (suc n) x y e = cc
nth_same (suc m) zero x y e = cc
nth_same (suc m) (suc n) x y e = ap suc (nth_same m n x y (ap inner e))

-- no more seconds stand before the one that was chosen than its number
pub nth_before : (m n : ℕ) (x y : Tree) → n ≤ m → t.Second (seconds m x) ≡ nth_tree n y → ⊥
nth_before m zero x y l e = cc
nth_before zero (suc n) x y l e = absurd (omega (arith, l))
nth_before (suc m) (suc n) x y l e = nth_before m n x y (omega (arith, l)) (ap inner e)

pub fewer_behind : (m n : ℕ) (x y : Tree) → m < n → t.Second (seconds m x) ≡ seconds n y → x ≡ seconds (n - m - 1) y
fewer_behind m zero x y l e = absurd (omega (arith, l))
fewer_behind zero (suc n) x y l e =
    let i : suc n - 0 - 1 ≡ n = omega arith in subst (λ k. x ≡ seconds k y) (sym i) (ap inner e)
fewer_behind (suc m) (suc n) x y l e =
    let i : suc n - suc m - 1 ≡ n - m - 1 = omega arith in
    subst (λ k. x ≡ seconds k y) (sym i) (fewer_behind m n x y (omega (arith, l)) (ap inner e))

pub more_behind : (m n : ℕ) (x y : Tree) → m < n → x ≡ seconds (n - m - 1) y → t.Second (seconds m x) ≡ seconds n y
more_behind m zero x y l e = absurd (omega (arith, l))
more_behind zero (suc n) x y l e =
    let i : suc n - 0 - 1 ≡ n = omega arith in ap t.Second (subst (λ k. x ≡ seconds k y) i e)
more_behind (suc m) (suc n) x y l e =
    let i : suc n - suc m - 1 ≡ n - m - 1 = omega arith in
    ap t.Second (more_behind m n x y (omega (arith, l)) (subst (λ k. x ≡ seconds k y) i e))

-- what is no choice is no alternative of one
pub nth_off : (x : Tree) (n : ℕ) (y : Tree) → is_choice x ≡ false → x ≡ nth_tree n y → ⊥
nth_off x n y d e = differ (is_choice x) (nth_choice x n y e) d
  where
    differ : (b : Bool) → b ≡ true → b ≡ false → ⊥
    differ true e d = cc
    differ false e d = cc

-- an alternative of what stands behind seconds is one of the whole, and the other way
pub nth_inside : (r : Option (Bor Tree)) (x : Tree) (m n : ℕ) (i j : Tree) → x ≡ t.Second (seconds m i) → m < n
    → j ≡ i → MatchOption r ((y : Tree) → j ≡ nth_tree (n - m - 1) y → ⊥) (λ z. j ≡ nth_tree (n - m - 1) z.now)
    → MatchOption r ((y : Tree) → x ≡ nth_tree n y → ⊥) (λ z. x ≡ nth_tree n z.now)
nth_inside None x m n i j e l d h = λ y q. h y (d ∙ fewer_behind m n i (t.First y) l (sym e ∙ q))
nth_inside (Some z) x m n i j e l d h = e ∙ more_behind m n i (t.First z.now) l (sym d ∙ h)

pub ruleset alternatives = (
  nth_off,
  mark_choice,
  turns_choice,
  elements_choice,
  nth_same,
  nth_before,
  fewer_behind,
  more_behind,
)

-- one of several punctuations is an alternative, and it is a punctuation

abbrev pub IsMark : Tree → Type 0
IsMark x = (c : ℕ) × (cs : List ℕ) × IsShaped x (mark c cs)

punct_mark : (text : List ℕ) (x : Tree) → IsShaped x (punct text) → IsMark x
punct_mark [] x h = absurd (shaped_never x h)
punct_mark (c ∷ cs) x h = (c, cs, h)

nth_mark : (n : ℕ) (x : Tree) (texts : List (List ℕ)) → IsShaped (nth_tree n x) (one_sign texts) → IsMark x
nth_mark n x [] h = absurd (shaped_never (nth_tree n x) h)
nth_mark zero x (text ∷ texts) h = punct_mark text x h
nth_mark (suc n) x (text ∷ texts) h = nth_mark n x texts h

pub nth_sign : (x : Tree) (n : ℕ) (y : Tree) (texts : List (List ℕ)) → x ≡ nth_tree n y → IsShaped x (one_sign texts)
    → ((c : ℕ) (cs : List ℕ) → IsShaped y (mark c cs) → ⊥) → ⊥
nth_sign x n y texts e h d =
    let m = nth_mark n y texts (subst (λ z. IsShaped z (one_sign texts)) e h) in d m.0 m.1 m.2

one_nth : (x : Tree) (texts : List (List ℕ)) → IsShaped x (one_sign texts)
    → ((n : ℕ) → n < length texts → (y : Tree) → x ≡ nth_tree n y → ⊥) → ⊥
one_nth x [] h d = shaped_never x h
one_nth (t.First x) (text ∷ texts) h d = d 0 (omega arith) x refl
one_nth (t.Second x) (text ∷ texts) h d =
    one_nth x texts h (λ n l y e. d (suc n) (omega (arith, l)) y (ap t.Second e))
one_nth _ (text ∷ texts) h d = absurd h

pub sign_nth : (x : Tree) (count : ℕ) (texts : List (List ℕ)) → length texts ≡ count → IsShaped x (one_sign texts)
    → ((n : ℕ) → n < count → (y : Tree) → x ≡ nth_tree n y → ⊥) → ⊥
sign_nth x count texts e h d = one_nth x texts h (λ n l y f. d n (subst (λ k. n < k) e l) y f)

pub ruleset signs = (nth_sign, sign_nth)
