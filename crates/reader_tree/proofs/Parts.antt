-- What the parts and the choice of a tree are, by its form.
use Rattle.std.specs.Prelude.{◌≡◌, ℕ, zero, suc, List, [], ◌∷◌, Option, Some, None, refl}
use Rattle.rust_leaf.specs.declared.punct.Spacing.{Spacing}
use Rattle.syn_grammar.specs.Name.{Part}
use Rattle.syn_grammar.specs.Tree.{Tree}
use Rattle.syn_grammar.specs.Part.{found, choice}
use Rattle.reader_tree.specs.declared.tree.Element.{Element}
use Rattle.reader_tree.specs.Forms.{mark_of, seconds, turns, elements, ending}

pub found_seconds : (p : Part) (n : ℕ) (x : Tree) → found p (seconds n x) ≡ found p x
found_seconds p zero x = refl
found_seconds p (suc n) x = found_seconds p n x

pub found_mark : (p : Part) (cs : List ℕ) (spacing : Spacing) → found p (mark_of cs spacing) ≡ None
found_mark p [] spacing = refl
found_mark p (c ∷ cs) spacing = refl

pub found_turns : (p : Part) (xs : List Tree) → found p (turns xs) ≡ None
found_turns p [] = refl
found_turns p (x ∷ xs) = refl

pub found_elements : {A : Type 0} (p : Part) (c : ℕ) (es : List Element) (f : A → Tree) (o : Option A)
    → found p (elements c es (ending f o)) ≡ None
found_elements p c [] f None = refl
found_elements p c [] f (Some y) = refl
found_elements p c (e ∷ es) f o = refl

pub choice_seconds : (n : ℕ) (x : Tree) → choice (seconds n x) ≡ choice x
choice_seconds zero x = refl
choice_seconds (suc n) x = choice_seconds n x

pub choice_mark : (cs : List ℕ) (spacing : Spacing) → choice (mark_of cs spacing) ≡ mark_of cs spacing
choice_mark [] spacing = refl
choice_mark (c ∷ cs) spacing = refl

pub choice_turns : (xs : List Tree) → choice (turns xs) ≡ turns xs
choice_turns [] = refl
choice_turns (x ∷ xs) = refl

pub choice_elements : {A : Type 0} (c : ℕ) (es : List Element) (f : A → Tree) (o : Option A)
    → choice (elements c es (ending f o)) ≡ elements c es (ending f o)
choice_elements c [] f None = refl
choice_elements c [] f (Some y) = refl
choice_elements c (e ∷ es) f o = refl

pub ruleset parts =
    (found_seconds, found_mark, found_turns, found_elements, choice_seconds, choice_mark, choice_turns, choice_elements)
