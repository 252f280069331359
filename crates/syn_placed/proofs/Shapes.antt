-- The tokens of a tree, by what stands in it.
use Rattle.std.proofs.Common.{◌≡◌, [], ◌∷◌, ◌++◌, Option, Some, None, refl, sym, ap, ◌∙◌}
use Rattle.proc_macro2.specs.Token.{Opens, Closes}
use Rattle.proc_macro2.specs.declared.delimiter.Delimiter.{Delimiter}
use Rattle.syn_grammar.specs.Kind.{Kind}
use Rattle.syn_grammar.specs.Part.{choice}
use Rattle.syn_grammar.specs.Tree as t
use Rattle.syn_grammar.specs.Tree.{Tree, flat}
use Rattle.reader_tree.specs.Shapes.{node_of, pair_of, group_of, whole_of, alone_of, first_of, last_of}

same_some : (x y : Tree) → Some x ≡ Some y → flat y ≡ flat x
same_some x y e = let h : x ≡ y = cc in ap flat (sym h)

pub same_pair : {A : Type 0} (a b : A) (x y : Tree) → ◌≡◌ {A = Option (A × Tree)} (Some (a, x)) (Some (b, y))
    → (a ≡ b) × (x ≡ y)
same_pair {A = A} a b x y e =
    let p : A × Tree = (a, x) in
    let r : A × Tree = (b, y) in
    let q : p ≡ r = cc in
    (ap (λ (v : A × Tree). v.0) q, ap (λ (v : A × Tree). v.1) q)

same_both : (j k : Kind) (x y : Tree) → ◌≡◌ {A = Option (Kind × Tree)} (Some (j, x)) (Some (k, y)) → flat y ≡ flat x
same_both j k x y e = ap flat (sym (same_pair j k x y e).1)

none : {A : Type 0} (x : A) → Some x ≡ None → ⊥
none x e = cc

pub node_flat : (x : Tree) (k : Kind) (y : Tree) → Some (k, y) ≡ node_of x → flat x ≡ flat y
node_flat (t.Node j x) k y e = same_both k j y x e
node_flat x k y e = absurd (none (k, y) e)

pub alone_flat : (x : Tree) (k : Kind) (y : Tree) → Some (k, y) ≡ alone_of x → flat x ≡ flat y
alone_flat (t.Alone j x) k y e = same_both k j y x e
alone_flat x k y e = absurd (none (k, y) e)

pub whole_flat : (x y : Tree) → Some y ≡ whole_of x → flat x ≡ flat y
whole_flat (t.Whole x) y e = same_some y x e
whole_flat x y e = absurd (none y e)

pub first_flat : (x y : Tree) → Some y ≡ first_of x → flat x ≡ flat y
first_flat (t.First x) y e = same_some y x e
first_flat x y e = absurd (none y e)

pub last_flat : (x y : Tree) → Some y ≡ last_of x → flat x ≡ flat y
last_flat (t.Second (t.First x)) y e = absurd (none y e)
last_flat (t.Second (t.Second x)) y e = absurd (none y e)
last_flat (t.Second x) y e = same_some y x e
last_flat x y e = absurd (none y e)

pub choice_flat : (x : Tree) → flat x ≡ flat (choice x)
choice_flat (t.First x) = choice_flat x
choice_flat (t.Second x) = choice_flat x
choice_flat x = refl

pub ruleset same_tokens = (node_flat, alone_flat, whole_flat, first_flat, last_flat, choice_flat)

pub pair_flat : (x y z : Tree) → Some (y, z) ≡ pair_of x → flat x ≡ flat y ++ flat z
pair_flat (t.Pair a b) y z e =
    let h = same_pair y a z b e in
    ap (λ u. flat u ++ flat b) (sym h.0) ∙ ap (λ u. flat y ++ flat u) (sym h.1)
pair_flat x y z e = absurd (none (y, z) e)

pub group_flat : (x y : Tree) → Some y ≡ group_of x
    → (d : Delimiter) × (flat x ≡ Opens d ∷ flat y ++ Closes d ∷ [])
group_flat (t.Group d x) y e = (d, ap (λ ts. Opens d ∷ ts ++ Closes d ∷ []) (same_some y x e))
group_flat x y e = absurd (none y e)
