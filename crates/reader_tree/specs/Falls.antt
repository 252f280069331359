-- A tree has more nodes than its children: the proof that the type owes. No definition rests on it.
use Rattle.std.specs.Prelude.{◌≡◌, ℕ, zero, suc, ◌≤◌, ◌+◌, List, [], ◌∷◌, Option, Some, None, refl}
use denote.Ref.{Bor}
use Rattle.std.proofs.Common.{arith}
use denote.Param.Weighed.{most}
use Rattle.syn_grammar.specs.Tree as t
use Rattle.syn_grammar.specs.Tree.{Tree}
use Rattle.reader_table.specs.Ops.{separator_of}
use Rattle.reader_tree.specs.declared.tree.Element.{Element}
use Rattle.reader_tree.specs.declared.tree.Form.{Form}
use Rattle.reader_tree.specs.declared.tree.Separated.{Separated}
use Rattle.reader_tree.specs.declared.tree.Form.TheVariants as forms
use Rattle.reader_tree.specs.declared.tree.Tree.TheDeep.{deep-Tree, deep-Form, deep-Element, deep-Separated}
use Rattle.reader_tree.specs.declared.tree.Tree.TheInside.{Inside}
use Rattle.reader_tree.specs.Forms.{tree_of, seconds, turns, elements, ending}
use Rattle.reader_tree.specs.Size.{node_count}

seconds_le : (n : ℕ) (x : Tree) → node_count x ≤ node_count (seconds n x)
seconds_le zero x = omega arith
seconds_le (suc n) x = omega (arith, seconds_le n x)

turns_le : (xs : List Tree) → most (λ x. node_count x + 1) xs ≤ node_count (turns xs)
turns_le [] = omega arith
turns_le (x ∷ xs) = omega (arith, turns_le xs)

elements_le : (c : ℕ) (es : List Element) (y : Tree) → most deep-Element es ≤ node_count (elements c es y)
elements_le c [] y = omega arith
elements_le c (e ∷ es) y = omega (arith, elements_le c es y)

behind_le : (c : ℕ) (es : List Element) (y : Tree) → node_count y ≤ node_count (elements c es y)
behind_le c [] y = omega arith
behind_le c (e ∷ es) y = omega (arith, behind_le c es y)

separated_le : (s : Separated) (o : Option (Bor Tree)) → s.last ≡ o
    → deep-Separated s ≤ node_count (elements (separator_of s.separator) s.before.now (ending (λ b. b.now) s.last))
separated_le s None e = rw e (omega (arith, elements_le (separator_of s.separator) s.before.now t.End))
separated_le s (Some b) e = rw e (omega (
  arith,
  elements_le (separator_of s.separator) s.before.now (t.Final b.now),
  behind_le (separator_of s.separator) s.before.now (t.Final b.now),
))

deep_le : (f : Form) → deep-Form f ≤ node_count (tree_of f)
deep_le (forms.Word i) = omega arith
deep_le (forms.Literal l) = omega arith
deep_le (forms.Mark s spacing span) = omega arith
deep_le (forms.Lifetime l) = omega arith
deep_le (forms.Raw k) = omega arith
deep_le forms.Nil = omega arith
deep_le (forms.Pair b) = omega arith
deep_le (forms.First n x) = omega (arith, seconds_le n (t.First x.now))
deep_le (forms.Second n x) = omega (arith, seconds_le n x.now)
deep_le forms.End = omega arith
deep_le (forms.Turns v) = omega (arith, turns_le v.now.each.now)
deep_le (forms.Elements e) = omega (arith, separated_le e.now e.now.last refl)
deep_le (forms.Group d g) = omega arith
deep_le (forms.Dropped x) = omega arith
deep_le (forms.Called n x) = omega arith
deep_le (forms.Verbatim x) = omega arith
deep_le (forms.Node k x) = omega arith
deep_le (forms.Whole x) = omega arith
deep_le (forms.Alone k x) = omega arith
deep_le (forms.Front k b) = omega arith
deep_le (forms.Back k b) = omega arith
deep_le (forms.Infix k b) = omega arith

pub falls : (s : Inside) → deep-Tree s ≤ node_count (tree_of s.form)
falls s = omega (arith, deep_le s.form)
