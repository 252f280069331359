-- A tree that a form is has the shape of entries of few kinds alone: a choice of a choice's, a mark of a mark's, turns
-- and lists of those that say again and again.
use Rattle.std.specs.Prelude.{◌≡◌, ◌≢◌, ℕ, zero, suc, Bool, true, false, List, [], ◌∷◌, Option, Some, None, length}
use Rattle.std.specs.Prelude.{refl}
use Rattle.rust_leaf.specs.declared.punct.Spacing.{Spacing}
use Rattle.proc_macro2.specs.Token.{Token}
use Rattle.syn_grammar.specs.Kind.{Kind}
use Rattle.syn_grammar.specs.Gram.{Gram, mark, nothing, alt, star, many}
use Rattle.syn_grammar.specs.Gram.{judged}
use Rattle.syn_grammar.specs.Tree as t
use Rattle.syn_grammar.specs.Tree.{Tree}
use Rattle.reader_tree.specs.declared.tree.Element.{Element}
use Rattle.reader_tree.specs.Forms.{mark_of, seconds, turns, elements, ending}
use Rattle.syn_part.specs.Shape.{IsShaped, may_choose}

abbrev pub may_mark : Gram → Bool
may_mark (mark c cs) = true
may_mark nothing = true
may_mark _ = false

abbrev pub may_repeat : Gram → Bool
may_repeat (star t g) = true
may_repeat (many e c g) = true
may_repeat _ = false

pub shaped_first : (n : ℕ) (x : Tree) (g : Gram) → IsShaped (seconds n (t.First x)) g → may_choose g ≡ true
shaped_first n x (alt t a b) h = refl
shaped_first n x (judged v g) h = refl
shaped_first zero x _ h = absurd h
shaped_first (suc n) x _ h = absurd h

pub shaped_second : (x : Tree) (g : Gram) → IsShaped (t.Second x) g → may_choose g ≡ true
shaped_second x (alt t a b) h = refl
shaped_second x (judged v g) h = refl
shaped_second x _ h = absurd h

pub not_both : (b : Bool) → b ≡ true → b ≡ false → ⊥
not_both true e d = cc
not_both false e d = cc

pub shaped_mark : (cs : List ℕ) (spacing : Spacing) (g : Gram) → IsShaped (mark_of cs spacing) g → may_mark g ≡ true
shaped_mark cs spacing (mark c ds) h = refl
shaped_mark cs spacing nothing h = refl
shaped_mark [] spacing _ h = absurd h
shaped_mark (c ∷ cs) spacing _ h = absurd h

pub shaped_turns : (xs : List Tree) (g : Gram) → IsShaped (turns xs) g → may_repeat g ≡ true
shaped_turns xs (star t g) h = refl
shaped_turns xs (many e c g) h = refl
shaped_turns [] _ h = absurd h
shaped_turns (x ∷ xs) _ h = absurd h

pub shaped_elements : {A : Type 0} (c : ℕ) (es : List Element) (f : A → Tree) (o : Option A) (g : Gram)
    → IsShaped (elements c es (ending f o)) g → may_repeat g ≡ true
shaped_elements c es f o (star t g) h = refl
shaped_elements c es f o (many e d g) h = refl
shaped_elements c [] f None _ h = absurd h
shaped_elements c [] f (Some y) _ h = absurd h
shaped_elements c (e ∷ es) f o _ h = absurd h

-- of two of which the second is no choice again
pub first_chosen : (n : ℕ) (x : Tree) (test : List Token → Bool) (a b : Gram) → n ≢ 0 → may_choose b ≡ false
    → IsShaped (seconds n (t.First x)) (alt test a b) → ⊥
first_chosen zero x test a b d e h = absurd (d refl)
first_chosen (suc n) x test a b d e h = not_both (may_choose b) (shaped_first n x b h) e

pub second_chosen : (n : ℕ) (x : Tree) (test : List Token → Bool) (a b : Gram) → n ≢ 0 → may_choose b ≡ false
    → IsShaped (t.Second (seconds n x)) (alt test a b) → ⊥
second_chosen zero x test a b d e h = absurd (d refl)
second_chosen (suc n) x test a b d e h = not_both (may_choose b) (shaped_second (seconds n x) b h) e

-- turns, at least one, are no list
pub turns_listed : (xs : List Tree) (e : List Token → Bool) (c : ℕ) (g : Gram) → length xs ≢ 0
    → IsShaped (turns xs) (many e c g) → ⊥
turns_listed [] e c g d h = absurd (d refl)
turns_listed (x ∷ xs) e c g d h = absurd h

-- a list, of at least one element, is no turns
pub list_turned : {A : Type 0} (c : ℕ) (es : List Element) (f : A → Tree) (o : Option A) (e : List Token → Bool)
    (g : Gram)
    → length es ≢ 0 → IsShaped (elements c es (ending f o)) (star e g) → ⊥
list_turned c [] f o e g d h = absurd (d refl)
list_turned c (x ∷ es) f o e g d h = absurd h

pub last_turned : (c : ℕ) (es : List Element) (x : Tree) (e : List Token → Bool) (g : Gram)
    → IsShaped (elements c es (t.Final x)) (star e g) → ⊥
last_turned c [] x e g h = absurd h
last_turned c (y ∷ es) x e g h = absurd h

-- a list with a mark is no lone element
pub elements_final : {A : Type 0} (c : ℕ) (es : List Element) (f : A → Tree) (o : Option A) (x : Tree) → length es ≢ 0
    → elements c es (ending f o) ≡ t.Final x → ⊥
elements_final c [] f o x d e = absurd (d refl)
elements_final c (y ∷ es) f o x d e = cc

-- a list with an element does not end at once
pub elements_end : {A : Type 0} (c : ℕ) (es : List Element) (f : A → Tree) (o : Option A) → length es ≢ 0
    → elements c es (ending f o) ≡ t.End → ⊥
elements_end c [] f o d e = absurd (d refl)
elements_end c (y ∷ es) f o d e = cc

pub ruleset takes = (shaped_first, shaped_mark, shaped_turns, shaped_elements)

pub ruleset choices = (first_chosen, second_chosen)

pub ruleset lists = (shaped_first, shaped_mark, shaped_turns, shaped_elements, turns_listed, list_turned, last_turned)
