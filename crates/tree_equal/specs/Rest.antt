-- What is left to be compared of two trees: they are one exactly if that is.
use Rattle.std.specs.Prelude.{◌≡◌, ◌↔◌, ◌+◌, ◌<◌, ◌≤◌, ℕ, IsTrue}
use denote.Ref.{Bor}
use Rattle.syn_grammar.specs.Tree as t
use Rattle.syn_grammar.specs.Tree.{Tree}
use Rattle.reader_tree.specs.Forms.{elements, ending, turns}
use Rattle.reader_tree.specs.declared.tree.Separated.{Separated}
use Rattle.reader_tree.specs.Size.{node_count}
use Rattle.tree_equal.specs.declared.rest.Rest.{Rest}
use Rattle.tree_equal.specs.declared.rest.Rest.TheVariants as rest

-- two trees together
abbrev pub both_count : Tree → Tree → ℕ
both_count a b = node_count a + node_count b

-- of a list: its elements but the last one, with what stands between them, and the last one
abbrev pub firsts : Bor Separated → Tree
firsts x = elements 0 x.now.before.now t.End

abbrev pub last : Bor Separated → Tree
last x = ending (λ z. z.now) x.now.last

-- What is left of two trees decides whether they are one. Either nothing is left, as that is told. Or trees of theirs
-- are left, which are smaller together, or elements, which are no larger; they are the same exactly if the two are one.
abbrev pub Decides : Tree → Tree → Rest → Type 0
Decides a b (rest.Told same) = IsTrue same ↔ (a ≡ b)
Decides a b (rest.One x y) = ((a ≡ b) ↔ (x.now ≡ y.now)) × (both_count x.now y.now < both_count a b)
Decides a b (rest.Two x y u v) =
    ((a ≡ b) ↔ ((x.now ≡ y.now) × (u.now ≡ v.now)))
    × (both_count x.now y.now + both_count u.now v.now < both_count a b)
Decides a b (rest.Three x y u v p q) =
    ((a ≡ b) ↔ ((x.now ≡ y.now) × (u.now ≡ v.now) × (p.now ≡ q.now)))
    × (both_count x.now y.now + both_count u.now v.now + both_count p.now q.now < both_count a b)
Decides a b (rest.Turns xs ys) =
    ((a ≡ b) ↔ (xs.now ≡ ys.now)) × (both_count (turns xs.now) (turns ys.now) ≤ both_count a b)
Decides a b (rest.Elements x y) =
    ((a ≡ b) ↔ ((x.now.before.now ≡ y.now.before.now) × (last x ≡ last y)))
    × (both_count (firsts x) (firsts y) ≤ both_count a b)
    × (both_count (last x) (last y) ≤ both_count a b)
