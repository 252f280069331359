-- The trees that items are, with their attributes and their visibility.
use Rattle.reader_table.specs.Kinds.{kind_of, place_of}
use Rattle.reader_table.specs.declared.kind.Place.{Place}
use Rattle.reader_table.specs.declared.kind.Place.TheVariants as places
use Rattle.rust_leaf.specs.declared.ident.Ident.{Ident}
use Rattle.std.specs.Prelude.{◌≡◌, None, Option}
use Rattle.syn_part.specs.Leaves.{optional_tree}
use Rattle.syn_grammar.specs.Gram.{Gram, Verdict, called, judged, ref, seq}
use Rattle.syn_grammar.specs.Kind as k
use Rattle.syn_grammar.specs.Name as n
use Rattle.syn_grammar.specs.Tree as t
use Rattle.syn_grammar.specs.Tree.{Tree}
use Rattle.syn_item.specs.ItemFunctions.{safety_is}
use Rattle.syn_item.specs.ItemParts.{default_tree}
use Rattle.syn_item.specs.declared.entry.ForeignItemStatic.{ForeignItemStatic}
use Rattle.syn_item.specs.declared.entry.ForeignParts.{ForeignParts}
use Rattle.syn_item.specs.declared.entry.ItemParts.{ItemParts}
use Rattle.syn_item.specs.declared.entry.OneMacro.{OneMacro}
use Rattle.syn_item.specs.declared.entry.OneTrait.{OneTrait}
use Rattle.syn_item.specs.declared.entry.PlacedParts.{PlacedParts}
use denote.Bor.{Bor}

-- an entry that reads attributes, a visibility, as a part, and an item, as a part, and judges them
abbrev pub entry_of : (Tree → Verdict) → Gram → Gram
entry_of v a = judged v (seq (ref k.OuterAttributes) (seq (called n.the_visibility (ref k.Visibility))
    (called n.the_item a)))

-- an item among others, or of one kind by itself, that is kept as it was read, with its attributes and its visibility
abbrev pub item_parts : ItemParts → Tree
item_parts x = t.Node (kind_of x.kind) (t.First (t.Pair x.attrs.now (t.Pair (t.Called n.the_visibility x.vis.now)
    (t.Called n.the_item x.item.now))))

-- default stands in a trait or an impl alone
abbrev pub IsDefaultIn : Place → Option (Bor Ident) → Type 0
IsDefaultIn places.InTrait o = Unit {0}
IsDefaultIn places.InImpl o = Unit {0}
IsDefaultIn places.InFile o = o ≡ None
IsDefaultIn places.InForeign o = o ≡ None

-- default, or that it is missing, in a trait or an impl, and nothing elsewhere
abbrev pub defaultness_tree : Place → Option (Bor Ident) → Tree
defaultness_tree places.InTrait o = optional_tree default_tree o
defaultness_tree places.InImpl o = optional_tree default_tree o
defaultness_tree places.InFile o = t.Nil
defaultness_tree places.InForeign o = t.Nil

-- what a node holds that is an item of a trait or an impl, or a function, a constant or a type by itself, in whatever
-- place that could stand, and is kept as it was read: its attributes, its visibility, default, and the item behind them
abbrev pub placed_parts : PlacedParts → Tree
placed_parts x = t.First (t.Pair x.attrs.now (t.Pair (t.Called n.the_visibility x.vis.now) (t.Pair
    (defaultness_tree x.place x.defaultness) (t.Called n.the_item x.item.now))))

-- what a node holds that is a trait or an alias of traits by itself: its attributes, its visibility, and the form
-- behind them
abbrev pub one_trait : OneTrait → Tree
one_trait x = t.First (t.Pair x.attrs.now (t.Pair x.vis.now (t.Called n.the_item x.item.now)))

-- a macro by itself, by the place where it could stand, with its attributes
abbrev pub one_macro : OneMacro → Tree
one_macro x = t.Node (k.OneMacro (place_of x.place)) (t.Pair x.attrs.now (t.First x.mac.now))

-- a static of an extern block by itself, with its attributes, its visibility and its safety
abbrev pub foreign_item_static : ForeignItemStatic → Tree
foreign_item_static x = t.Node k.ForeignItemStatic (t.First (t.Pair x.attrs.now (t.Pair
    (t.Called n.the_visibility x.vis.now) (t.Pair (safety_is x.safety) (t.Called n.the_item x.item.now)))))

-- an item of an extern block that is kept as it was read, with its attributes and its visibility
abbrev pub foreign_parts : ForeignParts → Tree
foreign_parts x = t.Node k.AForeignItem (t.First (t.Pair x.attrs.now (t.Pair
    (t.Called n.the_visibility x.vis.now) x.item.now)))
