-- The attributes of a file itself, as its tree is gone through.
use Rattle.std.proofs.Common.{◌≡◌, List, [], ◌∷◌, length, refl, sym, ap, ap₂, ◌∙◌, rules}
use Rattle.std.specs.Prelude.{Bool, true, false, not, ◌==◌, Option, Some, ◌↔◌}
use Rattle.syn_grammar.specs.Kind.{Kind}
use Rattle.syn_grammar.specs.Tree.{Tree, Pair, Node, Again}
use Rattle.reader_tree.specs.Forms as forms
use Rattle.reader_tree.specs.Shapes.{is_turns, node_of, pair_of}
use Rattle.laws_programs.specs.Joined.{attributes_of, turns}

inside : {A : Type 0} (x y : A) → Some x ≡ Some y → y ≡ x
inside x y e = cc

first_is : {A B : Type 0} (a c : A) (b d : B) → ◌≡◌ {A = Option (A × B)} (Some (a, b)) (Some (c, d)) → c ≡ a
first_is {A = A} {B = B} a c b d e = ap (λ (p : A × B). p.0) (inside (a, b) (c, d) e)

second_is : {A B : Type 0} (a c : A) (b d : B) → ◌≡◌ {A = Option (A × B)} (Some (a, b)) (Some (c, d)) → d ≡ b
second_is {A = A} {B = B} a c b d e = ap (λ (p : A × B). p.1) (inside (a, b) (c, d) e)

node_is : (x : Tree) (k : Kind) (y : Tree) → Some (k, y) ≡ node_of x → x ≡ Node k y
node_is (Node l z) k y e = ap₂ Node (first_is k l y z e) (second_is k l y z e)
node_is _ k y e = cc

pair_is : (x y z : Tree) → Some (y, z) ≡ pair_of x → x ≡ Pair y z
pair_is (Pair a b) y z e = ap₂ Pair (first_is y a z b e) (second_is y a z b e)
pair_is _ y z e = cc

-- the attributes are those that stand in the first part
pub attributes_are : (file parts front back attributes : Tree) (k l : Kind) → Some (k, parts) ≡ node_of file
    → Some (front, back) ≡ pair_of parts → Some (l, attributes) ≡ node_of front → attributes_of file ≡ turns attributes
attributes_are file parts front back attributes k l e f g =
    ap attributes_of (node_is file k parts e ∙ ap (Node k) (pair_is parts front back f
    ∙ ap (λ x. Pair x back) (node_is front l attributes g)))

-- turns are read one by one
same_turns : (xs : List Tree) → turns (forms.turns xs) ≡ xs
same_turns [] = refl
same_turns (x ∷ xs) = ap (λ ys. x ∷ ys) (same_turns xs)

pub turns_are : (x : Tree) (xs : List Tree) → x ≡ forms.turns xs → turns x ≡ xs
turns_are x xs e = ap turns e ∙ same_turns xs

-- what is no turns has none
pub no_turns : (x : Tree) → is_turns x ≡ false → turns x ≡ []
no_turns (Again x y) e = cc
no_turns _ e = refl

some_there : (x : Tree) (xs : List Tree) → (length (x ∷ xs) == 0) ≡ false
some_there x xs = search rules

-- whether there are some
pub some_or_none : (attributes xs : List Tree) (b : Bool) → attributes ≡ xs → b ≡ (length xs == 0)
    → (not b ≡ false) ↔ (attributes ≡ [])
some_or_none attributes [] b same e = ((λ h. same), (λ h. ap not e))
some_or_none attributes (x ∷ xs) b same e =
    ((λ h. wrong (sym (ap not (e ∙ some_there x xs)) ∙ h)), (λ h. none (sym same ∙ h)))
  where
    wrong : true ≡ false → attributes ≡ []
    wrong h = cc

    none : x ∷ xs ≡ [] → not b ≡ false
    none h = cc
