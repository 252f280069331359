-- Of choices among several, one after the other: what stands behind the first, and the last one.
use Rattle.std.specs.Prelude.{◌≡◌, ◌≢◌, ◌-◌, ℕ, zero, suc, refl}
use Rattle.std.specs.Prelude.{false, List, [], ◌∷◌, Option, Some, None}
use Rattle.rust_leaf.specs.declared.punct.Spacing.{Spacing}
use Rattle.std.proofs.Common.{arith}
use Rattle.syn_grammar.specs.Gram.{Gram}
use Rattle.syn_grammar.specs.Tree as t
use Rattle.syn_grammar.specs.Tree.{Tree}
use Rattle.reader_tree.specs.declared.tree.Element.{Element}
use Rattle.reader_tree.specs.Forms.{mark_of, seconds, turns, elements, ending}
use Rattle.syn_part.specs.Kept.{IsFirst}
use Rattle.syn_part.specs.Shape.{IsShaped, may_choose}
use Rattle.syn_part.proofs.Takes.{not_both, shaped_first, shaped_second}

pub seconds_less : (n : ℕ) (x : Tree) → n ≢ 0 → seconds n x ≡ t.Second (seconds (n - 1) x)
seconds_less zero x d = absurd (d refl)
seconds_less (suc n) x d = let e : suc n - 1 ≡ n = omega arith in rw e refl

pub last_first : (n : ℕ) (x : Tree) (g : Gram) → may_choose g ≡ false → IsShaped (seconds n (t.First x)) g → ⊥
last_first n x g e h = not_both (may_choose g) (shaped_first n x g h) e

pub last_second : (n : ℕ) (x : Tree) (g : Gram) → n ≢ 0 → may_choose g ≡ false → IsShaped (seconds n x) g → ⊥
last_second zero x g d e h = absurd (d refl)
last_second (suc n) x g d e h = not_both (may_choose g) (shaped_second (seconds n x) g h) e

-- none of these is a first
pub seconds_first : (n : ℕ) (x : Tree) → n ≢ 0 → IsFirst (seconds n x) → ⊥
seconds_first zero x d h = absurd (d refl)
seconds_first (suc n) x d h = h

pub mark_first : (cs : List ℕ) (spacing : Spacing) → IsFirst (mark_of cs spacing) → ⊥
mark_first [] spacing h = h
mark_first (c ∷ cs) spacing h = h

pub turns_first : (xs : List Tree) → IsFirst (turns xs) → ⊥
turns_first [] h = h
turns_first (x ∷ xs) h = h

pub elements_first : {A : Type 0} (c : ℕ) (es : List Element) (f : A → Tree) (o : Option A)
    → IsFirst (elements c es (ending f o)) → ⊥
elements_first c [] f None h = h
elements_first c [] f (Some x) h = h
elements_first c (e ∷ es) f o h = h

pub ruleset firsts = (seconds_first, mark_first, turns_first, elements_first)
