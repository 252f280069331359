-- The trees that structs, enums and unions are, with their attributes and their visibility.
use Rattle.rust_leaf.specs.declared.ident.Ident.{Ident}
use Rattle.std.specs.Prelude.{◌≡◌, ◌⊎◌}
use Rattle.syn_part.specs.Kept.{IsKept}
use Rattle.syn_part.specs.Shape.{IsShaped}
use Rattle.syn_data.specs.Items.{IsClosed, enum_tree, item_enum, item_struct, item_union, struct_tree, union_tree}
use Rattle.syn_data.specs.declared.derive.Data.{Data}
use Rattle.syn_data.specs.declared.derive.Data.TheVariants as datas
use Rattle.syn_data.specs.declared.derive.DataItem.{DataItem}
use Rattle.syn_data.specs.declared.derive.DataItem.TheVariants as items
use Rattle.syn_data.specs.declared.derive.DeriveInput.{DeriveInput}
use Rattle.syn_grammar.specs.Gram as g
use Rattle.syn_grammar.specs.Gram.{Gram, Verdict}
use Rattle.syn_grammar.specs.Kind as k
use Rattle.syn_grammar.specs.Kind.{Kind}
use Rattle.syn_grammar.specs.Name as n
use Rattle.syn_grammar.specs.Part.{choice, the}
use Rattle.syn_grammar.specs.Tree as t
use Rattle.syn_grammar.specs.Tree.{Tree}
use denote.Bor.{Bor}

-- a struct, an enum or a union, behind its attributes and its visibility
abbrev pub item_tree : DataItem → Tree
item_tree (items.Struct x) = item_struct x
item_tree (items.Enum x) = item_enum x
item_tree (items.Union x) = item_union x

-- where it is a struct, a semicolon stands behind it exactly if its fields don't stand in braces
abbrev pub IsWhole : DataItem → Type 0
IsWhole (items.Struct x) = IsClosed x.fields x.semi_token
IsWhole (items.Enum x) = Unit {0}
IsWhole (items.Union x) = Unit {0}

-- the same of data
abbrev pub IsEnded : Data → Type 0
IsEnded (datas.Struct x) = IsClosed x.fields x.semi_token
IsEnded (datas.Enum x) = Unit {0}
IsEnded (datas.Union x) = Unit {0}

-- a tree that has the shape of a struct, an enum or a union
abbrev pub HasData : Tree → Type 0
HasData x = IsShaped x (g.ref k.AStruct) ⊎ IsShaped x (g.ref k.AnEnum) ⊎ IsShaped x (g.ref k.AUnion)

-- the same as the alternative of the three that it is
abbrev pub chosen_item : DataItem → Tree
chosen_item (items.Struct x) = t.First (item_struct x)
chosen_item (items.Enum x) = t.Second (t.First (item_enum x))
chosen_item (items.Union x) = t.Second (t.Second (item_union x))

-- attributes, a visibility, and which of the three stands behind them
abbrev pub derived : Tree → Tree → DataItem → Tree
derived a v x = t.Node k.DeriveInput (t.Pair a (t.Pair v (chosen_item x)))

-- a struct, an enum or a union of that name, with those generic parameters and that where clause
abbrev pub data_tree : Data → Bor Ident → Bor Tree → Bor Tree → Tree
data_tree (datas.Struct x) i a w = struct_tree x.struct_token i a w x.fields x.semi_token
data_tree (datas.Enum x) i a w = enum_tree x.enum_token i a w x.brace_token x.variants
data_tree (datas.Union x) i a w = union_tree x.union_token i a w x.fields

-- an item as the alternative of the three that the data is
abbrev pub chosen_data : Data → Tree → Tree
chosen_data (datas.Struct x) y = t.First y
chosen_data (datas.Enum x) y = t.Second (t.First y)
chosen_data (datas.Union x) y = t.Second (t.Second y)

-- the item that it is, without attributes and a visibility
abbrev pub data_form : DeriveInput → Tree
data_form x = data_tree x.«data» x.ident x.generics x.where_clause

-- a struct, an enum or a union, with its attributes and its visibility
abbrev pub derive_input : DeriveInput → Tree
derive_input x = t.Node k.DeriveInput (t.Pair x.attrs.now (t.Pair x.vis.now (chosen_data x.«data» (data_form x))))

-- the entry of an item: attributes, a visibility and a form, which are judged
abbrev pub item_entry : (Tree → Verdict) → Gram → Gram → Gram → Gram
item_entry v a b c = g.judged v (g.seq a (g.seq (g.called n.the_visibility b) (g.called n.the_item c)))

-- an item that is kept, of its attributes, its visibility and its form
abbrev pub item_inside : Tree → Tree → Tree → Tree
item_inside a v y = t.First (t.Pair a (t.Pair (t.Called n.the_visibility v) (t.Called n.the_item y)))

-- of an item that is kept, its attributes
abbrev pub attributes_of : Tree → Tree
attributes_of (t.Node i (t.First (t.Pair a (t.Pair (t.Called n.the_visibility v) (t.Called n.the_item y))))) = a
attributes_of _ = t.Nil

-- of an item that is kept, its visibility
abbrev pub visibility_of : Tree → Tree
visibility_of (t.Node i (t.First (t.Pair a (t.Pair (t.Called n.the_visibility v) (t.Called n.the_item y))))) = v
visibility_of _ = t.Nil

-- of an item that is kept, the form that was chosen behind them
abbrev pub form_of : Tree → Tree
form_of (t.Node i (t.First (t.Pair a (t.Pair (t.Called n.the_visibility v) (t.Called n.the_item y))))) = choice y
form_of _ = t.Nil

-- the kinds of an item among others, and of a struct, an enum or a union by itself
abbrev pub IsItemKind : Kind → Type 0
IsItemKind k.AnItem = Unit {0}
IsItemKind k.ItemStruct = Unit {0}
IsItemKind k.ItemEnum = Unit {0}
IsItemKind k.ItemUnion = Unit {0}
IsItemKind _ = ⊥

-- an item of one of these kinds, of the shape of its kind's entry, that is kept, and is a struct, an enum or a union
abbrev pub IsDataItem : Tree → Type 0
IsDataItem x = (i : Kind) × IsItemKind i × IsKept x × IsShaped x (g.ref i) × HasData (form_of x)

-- the attributes, the visibility and the form are those of the item
abbrev pub IsItemOf : DeriveInput → Tree → Type 0
IsItemOf x y = (attributes_of y ≡ x.attrs.now) × (visibility_of y ≡ x.vis.now) × (form_of y ≡ data_form x)

-- the kinds of a struct, an enum or a union by itself
abbrev pub IsAlone : Kind → Type 0
IsAlone k.ItemStruct = Unit {0}
IsAlone k.ItemEnum = Unit {0}
IsAlone k.ItemUnion = Unit {0}
IsAlone _ = ⊥

-- the form of an item that was read, also of a raw one
abbrev pub read_form : Tree → Tree
read_form (t.Node i (t.First y)) = choice (the n.the_item y)
read_form (t.Node i (t.Verbatim y)) = choice (the n.the_item y)
read_form _ = t.Nil

-- it is a struct, an enum or a union
abbrev pub IsDataKind : Tree → Type 0
IsDataKind (t.Node k.AStruct x) = Unit {0}
IsDataKind (t.Node k.AnEnum x) = Unit {0}
IsDataKind (t.Node k.AUnion x) = Unit {0}
IsDataKind _ = ⊥
