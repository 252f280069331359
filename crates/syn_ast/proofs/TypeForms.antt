-- What a type with bounds is, whether or not a + may stand in it; and that a tree which is none of the forms of a type
-- is no type.
use Rattle.std.specs.Prelude.{◌≡◌, refl}
use Rattle.std.proofs.Common.{subst}
use Rattle.syn_grammar.specs.Kind as k
use Rattle.syn_grammar.specs.Gram as g
use Rattle.syn_grammar.specs.Tree.{Tree, Node, Final}
use Rattle.syn_grammar.specs.Part.{choice}
use Rattle.syn_grammar.specs.Table.{table}
use Rattle.syn_grammar.specs.Types.{type_entry}
use Rattle.syn_part.specs.Shape.{IsShaped, IsAmong}
use Rattle.syn_ast.specs.Types.{no_lone}
use Rattle.syn_part.proofs.Chosen.{choice_is}

pub either_plus_DynType : (x : Tree) → (IsShaped x (g.ref (k.DynType k.WithPlus)) → ⊥)
    → (IsShaped x (g.ref (k.DynType k.WithoutPlus)) → ⊥) → (p : k.Plus) → IsShaped x (g.ref (k.DynType p)) → ⊥
either_plus_DynType x a b k.WithPlus h = a h
either_plus_DynType x a b k.WithoutPlus h = b h

pub either_plus_ImplType : (x : Tree) → (IsShaped x (g.ref (k.ImplType k.WithPlus)) → ⊥)
    → (IsShaped x (g.ref (k.ImplType k.WithoutPlus)) → ⊥) → (p : k.Plus) → IsShaped x (g.ref (k.ImplType p)) → ⊥
either_plus_ImplType x a b k.WithPlus h = a h
either_plus_ImplType x a b k.WithoutPlus h = b h

-- a node whose inside chose none of them is no type
pub type_inside : (x y : Tree) (q p : k.Plus) → x ≡ Node (k.AType q) y → ((r : k.Plus) → IsAmong (choice y)
    (type_entry r) → ⊥)
    → IsShaped x (g.ref (k.AType p)) → ⊥
unfolding table
type_inside x y q p e f h =
    let s : IsShaped (Node (k.AType q) y) (g.ref (k.AType p)) = subst (λ z. IsShaped z (g.ref (k.AType p))) e h in
    f q (choice_is y (type_entry q) s.1)

-- what is no lone type is a tuple
pub several_types : (l : Tree) → ((x : Tree) → l ≡ Final x → ⊥) → no_lone l ≡ l
several_types (Final x) d = absurd (d x refl)
several_types l d = refl
