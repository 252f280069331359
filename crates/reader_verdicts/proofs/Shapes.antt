-- Which tree it is, by what stands in it.
use Rattle.std.specs.Prelude.{◌≡◌, Option, Some}
use Rattle.std.proofs.Common.{ap}
use Rattle.syn_grammar.specs.Kind.{Kind}
use Rattle.syn_grammar.specs.Tree.{Tree, Pair, Node, Alone, Front}
use Rattle.reader_tree.specs.Shapes.{node_of, pair_of, alone_of, front_of}

same_pair : {A B : Type 0} (a c : A) (b d : B) → ◌≡◌ {A = Option (A × B)} (Some (a, b)) (Some (c, d)) → (a ≡ c)
    × (b ≡ d)
same_pair {A = A} {B = B} a c b d e =
    let p : A × B = (a, b) in
    let r : A × B = (c, d) in
    let q : p ≡ r = cc in
    (ap (λ (v : A × B). v.0) q, ap (λ (v : A × B). v.1) q)

pub node_is : (t : Tree) (k : Kind) (x : Tree) → Some (k, x) ≡ node_of t → t ≡ Node k x
node_is (Node j y) k x e = let s = same_pair k j x y e in cc (s.0, s.1)
node_is t k x e = cc

pub pair_is : (t x y : Tree) → Some (x, y) ≡ pair_of t → t ≡ Pair x y
pair_is (Pair v w) x y e = let s = same_pair x v y w e in cc (s.0, s.1)
pair_is t x y e = cc

pub alone_is : (t : Tree) (k : Kind) (y : Tree) → Some (k, y) ≡ alone_of t → t ≡ Alone k y
alone_is (Alone j z) k y e = let s = same_pair k j y z e in cc (s.0, s.1)
alone_is t k y e = cc

pub front_is : (t : Tree) (k : Kind) (x : Tree) → Some (k, x) ≡ front_of t → (y : Tree) × (t ≡ Front k y x)
front_is (Front j z w) k x e = let s = same_pair k j x w e in (z, cc (s.0, s.1))
front_is t k x e = cc
