-- What is left of a tree that is single, and of one that is a choice, by its form.
use Rattle.std.specs.Prelude.{false, ◌≡◌, ◌≢◌, ℕ, zero, suc, ◌-◌, List, [], ◌∷◌, Option, Some, None, refl}
use Rattle.std.proofs.Common.{arith}
use Rattle.std.specs.Prelude.{option_map}
use denote.Ref.{Bor}
use Rattle.rust_leaf.specs.declared.punct.Spacing.{Spacing}
use Rattle.syn_grammar.specs.Tree as t
use Rattle.syn_grammar.specs.Tree.{Tree}
use Rattle.reader_tree.specs.declared.tree.Element.{Element}
use Rattle.reader_tree.specs.Forms.{mark_of, seconds, turns, elements, ending}
use Rattle.reader_tree.specs.Shapes.{single, chosen, last_of, is_list, is_turns}

pub single_first : (n : ℕ) (x : Tree) → single (seconds n (t.First x)) ≡ t.Nil
single_first zero x = refl
single_first (suc n) x = refl

pub single_mark : (cs : List ℕ) (spacing : Spacing) → single (mark_of cs spacing) ≡ t.Nil
single_mark [] spacing = refl
single_mark (c ∷ cs) spacing = refl

pub single_turns : (xs : List Tree) → single (turns xs) ≡ t.Nil
single_turns [] = refl
single_turns (x ∷ xs) = refl

pub single_elements : {A : Type 0} (c : ℕ) (es : List Element) (f : A → Tree) (o : Option A)
    → single (elements c es (ending f o)) ≡ t.Nil
single_elements c [] f None = refl
single_elements c [] f (Some y) = refl
single_elements c (e ∷ es) f o = refl

pub ruleset singles = (single_first, single_mark, single_turns, single_elements)

pub chosen_mark : (cs : List ℕ) (spacing : Spacing) → chosen (mark_of cs spacing) ≡ t.Nil
chosen_mark [] spacing = refl
chosen_mark (c ∷ cs) spacing = refl

pub chosen_turns : (xs : List Tree) → chosen (turns xs) ≡ t.Nil
chosen_turns [] = refl
chosen_turns (x ∷ xs) = refl

pub chosen_elements : {A : Type 0} (c : ℕ) (es : List Element) (f : A → Tree) (o : Option A)
    → chosen (elements c es (ending f o)) ≡ t.Nil
chosen_elements c [] f None = refl
chosen_elements c [] f (Some y) = refl
chosen_elements c (e ∷ es) f o = refl

pub seconds_more : (n : ℕ) (x : Tree) → n ≢ 0 → seconds n x ≡ t.Second (seconds (n - 1) x)
seconds_more zero x h = absurd (h refl)
seconds_more (suc n) x h = let e : suc n - 1 ≡ n = omega arith in rw e refl

pub last_first : (n : ℕ) (x : Tree) → last_of (seconds n (t.First x)) ≡ None
last_first zero x = refl
last_first (suc zero) x = refl
last_first (suc (suc n)) x = refl

pub ruleset choices = (chosen_mark, chosen_turns, chosen_elements, seconds_more, last_first)

pub list_first : (n : ℕ) (x : Tree) → is_list (seconds n (t.First x)) ≡ false
list_first zero x = refl
list_first (suc n) x = refl

pub list_mark : (cs : List ℕ) (spacing : Spacing) → is_list (mark_of cs spacing) ≡ false
list_mark [] spacing = refl
list_mark (c ∷ cs) spacing = refl

pub list_turns : (xs : List Tree) → is_list (turns xs) ≡ false
list_turns [] = refl
list_turns (x ∷ xs) = refl

pub turns_first : (n : ℕ) (x : Tree) → is_turns (seconds n (t.First x)) ≡ false
turns_first zero x = refl
turns_first (suc n) x = refl

pub turns_mark : (cs : List ℕ) (spacing : Spacing) → is_turns (mark_of cs spacing) ≡ false
turns_mark [] spacing = refl
turns_mark (c ∷ cs) spacing = refl

pub turns_elements : {A : Type 0} (c : ℕ) (es : List Element) (f : A → Tree) (o : Option A)
    → is_turns (elements c es (ending f o)) ≡ false
turns_elements c [] f None = refl
turns_elements c [] f (Some y) = refl
turns_elements c (e ∷ es) f o = refl

-- a last element behind a reference
pub ending_now : (o : Option (Bor Tree)) → ending (λ b. b.now) o ≡ ending (λ y. y) (option_map (λ x. x.now) o)
ending_now None = refl
ending_now (Some b) = refl

pub ruleset lists = (list_first, list_mark, list_turns, turns_first, turns_mark, turns_elements)
