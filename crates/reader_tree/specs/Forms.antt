-- The tree of the written grammar that a form is.
use Rattle.std.specs.Prelude.{ℕ, zero, suc, List, [], ◌∷◌, Option, Some, None, map}
use Rattle.rust_leaf.specs.Leaf.{ident_text, literal_text}
use Rattle.rust_leaf.specs.declared.punct.Spacing.{Spacing}
use Rattle.syn_grammar.specs.Tree as t
use Rattle.syn_grammar.specs.Tree.{Tree}
use Rattle.syn_buffer.specs.Entries.{entry_token}
use Rattle.reader_table.specs.Kinds.{kind_of}
use Rattle.reader_table.specs.Ops.{separator_of}
use Rattle.reader_table.specs.Parts.{part_of}
use Rattle.reader_table.specs.Words.{sign_text}
use Rattle.reader_tree.specs.declared.tree.Form.{Form}
use Rattle.reader_tree.specs.declared.tree.Form.TheVariants as forms
use Rattle.reader_tree.specs.declared.tree.Element.{Element}

abbrev pub mark_of : List ℕ → Spacing → Tree
mark_of [] spacing = t.Nil
mark_of (c ∷ cs) spacing = t.AMark c cs spacing

-- behind so many seconds
abbrev pub seconds : ℕ → Tree → Tree
seconds zero x = x
seconds (suc n) x = t.Second (seconds n x)

abbrev pub turns : List Tree → Tree
turns [] = t.End
turns (x ∷ xs) = t.Again x (turns xs)

abbrev pub ending : {A : Type 0} → (A → Tree) → Option A → Tree
ending f None = t.End
ending f (Some x) = t.Final (f x)

abbrev pub elements : ℕ → List Element → Tree → Tree
elements c [] y = y
elements c (e ∷ es) y = t.More e.tree c e.spacing (elements c es y)

abbrev pub tree_of : Form → Tree
tree_of (forms.Word i) = t.AWord (ident_text i.now)
tree_of (forms.Literal l) = t.ALiteral (literal_text l.now)
tree_of (forms.Mark s spacing span) = mark_of (sign_text s) spacing
tree_of (forms.Lifetime l) = t.ALifetime (ident_text l.now.ident.now)
tree_of (forms.Raw k) = t.Raw (map entry_token k.now.entries.now)
tree_of forms.Nil = t.Nil
tree_of (forms.Pair b) = t.Pair b.now.front b.now.back
tree_of (forms.First n x) = seconds n (t.First x.now)
tree_of (forms.Second n x) = t.Second (seconds n x.now)
tree_of forms.End = t.End
tree_of (forms.Turns v) = turns v.now.each.now
tree_of (forms.Elements e) = elements (separator_of e.now.separator) e.now.before.now (ending (λ b. b.now) e.now.last)
tree_of (forms.Group d g) = t.Group d g.now.inside
tree_of (forms.Dropped x) = t.Dropped x.now
tree_of (forms.Called n x) = t.Called (part_of n) x.now
tree_of (forms.Verbatim x) = t.Verbatim x.now
tree_of (forms.Node k x) = t.Node (kind_of k) x.now
tree_of (forms.Whole x) = t.Whole x.now
tree_of (forms.Alone k x) = t.Alone (kind_of k) x.now
tree_of (forms.Front k b) = t.Front (kind_of k) b.now.front b.now.back
tree_of (forms.Back k b) = t.Back b.now.front (kind_of k) b.now.back
tree_of (forms.Infix k b) = t.Infix b.now.left (kind_of k) b.now.own b.now.right
