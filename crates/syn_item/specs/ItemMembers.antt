-- The trees that the items of traits, impls and extern blocks are, by their form.
use Rattle.syn_grammar.specs.Kind as k
use Rattle.syn_grammar.specs.Name as n
use Rattle.syn_grammar.specs.Tree as t
use Rattle.syn_grammar.specs.Tree.{Tree}
use Rattle.syn_item.specs.ItemFunctions.{safety_is}
use Rattle.syn_item.specs.declared.members.AssociatedForm.{AssociatedForm}
use Rattle.syn_item.specs.declared.members.AssociatedForm.TheVariants as associated
use Rattle.syn_item.specs.declared.members.AssociatedItem.{AssociatedItem}
use Rattle.syn_item.specs.declared.members.ForeignForm.{ForeignForm}
use Rattle.syn_item.specs.declared.members.ForeignForm.TheVariants as foreigns
use Rattle.syn_item.specs.declared.members.ForeignItem.{ForeignItem}
use Rattle.syn_item.specs.declared.members.ForeignStatic.{ForeignStatic}

-- an item of a trait or an impl: a function, a constant, a type or a macro, as the alternative that the grammar
-- chooses, or all that was read, where its tokens are kept
abbrev pub associated_choice : AssociatedForm → Tree → Tree
associated_choice associated.Fn x = t.First x
associated_choice associated.Const x = t.Second (t.First x)
associated_choice associated.«Type» x = t.Second (t.Second (t.First x))
associated_choice associated.Macro x = t.Second (t.Second (t.Second (t.First x)))
associated_choice associated.Verbatim x = t.Verbatim x

-- an item of a trait or an impl, by its form
abbrev pub associated_item : AssociatedItem → Tree
associated_item x = associated_choice x.form x.tree.now

-- of what was judged: what stands behind the attributes, the visibility and default, or all of it where its tokens are
-- kept
abbrev pub associated_inside : Tree → Tree
associated_inside (t.First (t.Pair a (t.Pair v (t.Pair d (t.Called m x))))) = x
associated_inside (t.Verbatim x) = t.Verbatim x
associated_inside _ = t.Nil

-- of an item of a trait that was read, likewise
abbrev pub form_of_trait_item : Tree → Tree
form_of_trait_item (t.Node k.ATraitItem x) = associated_inside x
form_of_trait_item _ = t.Nil

-- of an item of an impl that was read, likewise
abbrev pub form_of_impl_item : Tree → Tree
form_of_impl_item (t.Node k.AnImplItem x) = associated_inside x
form_of_impl_item _ = t.Nil

-- a static of an extern block, behind its attributes and its visibility, with its safety
abbrev pub foreign_static : ForeignStatic → Tree
foreign_static x = t.Pair (safety_is x.safety) (t.Called n.the_item x.item.now)

-- an item of an extern block: a function, a static with its safety, a type or a macro, as the alternative that the
-- grammar chooses, or all that was read, where its tokens are kept
abbrev pub foreign_choice : ForeignForm → Tree → Tree
foreign_choice foreigns.Fn x = t.First (t.Called n.the_item x)
foreign_choice foreigns.Static x = t.Second (t.First x)
foreign_choice foreigns.«Type» x = t.Second (t.Second (t.First (t.Called n.the_item x)))
foreign_choice foreigns.Macro x = t.Second (t.Second (t.Second (t.First (t.Called n.the_item x))))
foreign_choice foreigns.Verbatim x = t.Verbatim x

-- an item of an extern block, by its form
abbrev pub foreign_item : ForeignItem → Tree
foreign_item x = foreign_choice x.form x.tree.now

-- of one that was read: what stands behind the attributes and the visibility, or all of it where its tokens are kept
abbrev pub form_of_foreign_item : Tree → Tree
form_of_foreign_item (t.Node k.AForeignItem (t.First (t.Pair a (t.Pair v x)))) = x
form_of_foreign_item (t.Node k.AForeignItem (t.Verbatim x)) = t.Verbatim x
form_of_foreign_item _ = t.Nil
