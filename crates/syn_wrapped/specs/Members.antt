-- Items of traits, impls and extern blocks, of what stands before them and their form.
use Rattle.rust_leaf.specs.declared.ident.Ident.{Ident}
use Rattle.std.specs.Prelude.{Option}
use Rattle.syn_part.specs.Leaves.{optional_tree}
use Rattle.syn_grammar.specs.Kind as k
use Rattle.syn_grammar.specs.Name as n
use Rattle.syn_grammar.specs.Tree as t
use Rattle.syn_grammar.specs.Tree.{Tree}
use Rattle.syn_item.specs.ItemMembers.{associated_item, foreign_item}
use Rattle.syn_item.specs.ItemParts.{default_tree}
use Rattle.syn_item.specs.declared.members.AssociatedForm.{AssociatedForm}
use Rattle.syn_item.specs.declared.members.AssociatedForm.TheVariants as associated
use Rattle.syn_item.specs.declared.members.AssociatedItem.{AssociatedItem}
use Rattle.syn_item.specs.declared.members.ForeignForm.{ForeignForm}
use Rattle.syn_item.specs.declared.members.ForeignForm.TheVariants as foreigns
use Rattle.syn_item.specs.declared.members.ForeignItem.{ForeignItem}
use Rattle.syn_wrapped.specs.Among.{IsKeptIn}
use denote.Bor.{Bor}

-- attributes, a visibility, default and an item, which are kept as they are
abbrev pub kept_member : Tree → Tree → Option (Bor Ident) → Tree → Tree
kept_member a v d x = t.First (t.Pair a (t.Pair (t.Called n.the_visibility v) (t.Pair (optional_tree default_tree d)
    (t.Called n.the_item x))))

-- the same, or the item's tokens alone, by its form
abbrev pub member_by : AssociatedForm → Tree → Tree → Option (Bor Ident) → Tree → Tree
member_by associated.Fn a v d x = kept_member a v d x
member_by associated.Const a v d x = kept_member a v d x
member_by associated.«Type» a v d x = kept_member a v d x
member_by associated.Macro a v d x = kept_member a v d x
member_by associated.Verbatim a v d x = x

-- an item of a trait or an impl, behind these attributes, this visibility and default
abbrev pub member_inside : Tree → Tree → Option (Bor Ident) → AssociatedItem → Tree
member_inside a v d x = member_by x.form a v d (associated_item x)

-- attributes, a visibility and an item, which are kept as they are
abbrev pub kept_foreign : Tree → Tree → Tree → Tree
kept_foreign a v x = t.First (t.Pair a (t.Pair (t.Called n.the_visibility v) x))

-- the same, or the item's tokens alone, by its form
abbrev pub foreign_by : ForeignForm → Tree → Tree → Tree → Tree
foreign_by foreigns.Fn a v x = kept_foreign a v x
foreign_by foreigns.Static a v x = kept_foreign a v x
foreign_by foreigns.«Type» a v x = kept_foreign a v x
foreign_by foreigns.Macro a v x = kept_foreign a v x
foreign_by foreigns.Verbatim a v x = x

-- an item of an extern block, behind these attributes and this visibility
abbrev pub foreign_inside : Tree → Tree → ForeignItem → Tree
foreign_inside a v x = foreign_by x.form a v (foreign_item x)

-- attributes, a visibility, default and an item
abbrev pub member_parts : Tree → Tree → Option (Bor Ident) → Tree → Tree
member_parts a v d x = t.Pair a (t.Pair (t.Called n.the_visibility v) (t.Pair (optional_tree default_tree d)
    (t.Called n.the_item x)))

-- an item of a trait or an impl is kept there, or is its tokens alone
abbrev pub MayStandBy : k.Place → AssociatedForm → Tree → Type 0
MayStandBy p associated.Verbatim y = Unit {0}
MayStandBy p f y = IsKeptIn p y

abbrev pub IsMember : k.Place → Tree → Tree → Option (Bor Ident) → AssociatedItem → Type 0
IsMember p a v d x = MayStandBy p x.form (member_parts a v d (associated_item x))

-- attributes, a visibility and an item of an extern block
abbrev pub foreign_parts : Tree → Tree → Tree → Tree
foreign_parts a v x = t.Pair a (t.Pair (t.Called n.the_visibility v) x)

-- it is kept there, or is its tokens alone
abbrev pub IsForeignBy : ForeignForm → Tree → Type 0
IsForeignBy foreigns.Verbatim y = Unit {0}
IsForeignBy f y = IsKeptIn k.InForeign y

abbrev pub IsForeign : Tree → Tree → ForeignItem → Type 0
IsForeign a v x = IsForeignBy x.form (foreign_parts a v (foreign_item x))
