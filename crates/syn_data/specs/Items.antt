-- The trees that these items are, behind their attributes and their visibility.
use Rattle.rust_leaf.specs.declared.ident.Ident.{Ident}
use Rattle.std.specs.Prelude.{None, Option, Some}
use Rattle.syn_part.specs.Name.{name_tree, renamed_tree}
use Rattle.syn_part.specs.Leaves.{list_tree, mark_tree, optional_tree, word_tree}
use Rattle.syn_part.specs.Sub.{marked_type_tree, marked_value_tree}
use Rattle.syn_part.specs.declared.leaf.Delimiters.{Delimiters}
use Rattle.syn_part.specs.declared.leaf.Mark.{Mark}
use Rattle.syn_part.specs.declared.list.Elements.{Elements}
use Rattle.syn_data.specs.Data.{fields_named, fields_unnamed}
use Rattle.syn_data.specs.declared.data.Fields.{Fields}
use Rattle.syn_data.specs.declared.data.Fields.TheVariants as fields
use Rattle.syn_data.specs.declared.data.FieldsNamed.{FieldsNamed}
use Rattle.syn_data.specs.declared.item.ItemEnum.{ItemEnum}
use Rattle.syn_data.specs.declared.item.ItemExternCrate.{ItemExternCrate}
use Rattle.syn_data.specs.declared.item.ItemStatic.{ItemStatic}
use Rattle.syn_data.specs.declared.item.ItemStruct.{ItemStruct}
use Rattle.syn_data.specs.declared.item.StaticMutability.{StaticMutability}
use Rattle.syn_data.specs.declared.item.StaticMutability.TheVariants as mutabilities
use Rattle.syn_data.specs.declared.item.ItemUnion.{ItemUnion}
use Rattle.syn_data.specs.declared.item.ItemUse.{ItemUse}
use Rattle.syn_grammar.specs.Kind as k
use Rattle.syn_grammar.specs.Name as n
use Rattle.syn_grammar.specs.Tree as t
use Rattle.syn_grammar.specs.Tree.{Tree}
use denote.Bor.{Bor}

-- a semicolon stands behind a struct exactly if its fields don't stand in braces
abbrev pub IsClosed : Fields → Option Mark → Type 0
IsClosed (fields.Named x) None = Unit {0}
IsClosed (fields.Unnamed x) (Some m) = Unit {0}
IsClosed fields.Unit (Some m) = Unit {0}
IsClosed _ _ = ⊥

-- behind the generic parameters of a struct: fields without names, a where clause and ; or a where clause, and fields
-- with names or ; alone; with a ; too many or too few there is no tree
abbrev pub struct_end : Fields → Bor Tree → Option Mark → Tree
struct_end (fields.Unnamed x) w (Some m) = t.First (t.Pair (fields_unnamed x) (t.Pair (t.Called n.the_where w.now)
    (mark_tree m)))
struct_end (fields.Named x) w None = t.Second (t.Pair (t.Called n.the_where w.now) (t.First (fields_named x)))
struct_end fields.Unit w (Some m) = t.Second (t.Pair (t.Called n.the_where w.now) (t.Second (mark_tree m)))
struct_end _ w _ = t.Nil

-- a struct of these parts: struct, its name, its generic parameters, its where clause, its fields, and ; or none
abbrev pub struct_tree : Bor Ident → Bor Ident → Bor Tree → Bor Tree → Fields → Option Mark → Tree
struct_tree s i a w x m = t.Node k.AStruct (t.Pair (word_tree s) (t.Pair (t.Called n.the_name (word_tree i)) (t.Pair
    (t.Called n.the_generics a.now) (struct_end x w m))))

-- a struct, behind its attributes and its visibility: struct A<T> where .. { b: B }, struct A<T>(B) where ..;
abbrev pub item_struct : ItemStruct → Tree
item_struct x = struct_tree x.struct_token x.ident x.generics x.where_clause x.fields x.semi_token

-- an enum of these parts: enum, its name, its generic parameters, its where clause, the braces, and its variants
abbrev pub enum_tree : Bor Ident → Bor Ident → Bor Tree → Bor Tree → Delimiters → Elements → Tree
enum_tree e i a w d x = t.Node k.AnEnum (t.Pair (word_tree e) (t.Pair (t.Called n.the_name (word_tree i))
    (t.Pair (t.Called n.the_generics a.now) (t.Pair (t.Called n.the_where w.now) (t.Group d.delimiter (list_tree x))))))

-- an enum, likewise: enum A<T> where .. { B, C }
abbrev pub item_enum : ItemEnum → Tree
item_enum x = enum_tree x.enum_token x.ident x.generics x.where_clause x.brace_token x.variants

-- a union of these parts: union, its name, its generic parameters, its where clause, and its fields
abbrev pub union_tree : Bor Ident → Bor Ident → Bor Tree → Bor Tree → FieldsNamed → Tree
union_tree u i a w x = t.Node k.AUnion (t.Pair (word_tree u) (t.Pair (t.Called n.the_name (word_tree i))
    (t.Pair (t.Called n.the_generics a.now) (t.Pair (t.Called n.the_where w.now) (fields_named x)))))

-- a union, likewise: union A<T> where .. { b: B }
abbrev pub item_union : ItemUnion → Tree
item_union x = union_tree x.union_token x.ident x.generics x.where_clause x.fields

-- whether a static can be written: mut, or nothing
abbrev pub mutability_tree : StaticMutability → Tree
mutability_tree (mutabilities.Mut i) = t.First (word_tree i)
mutability_tree mutabilities.None = t.Second t.Nil

-- a static, behind its attributes and its visibility, its type and its value each if it stands there:
-- static mut A: T = b;
abbrev pub item_static : ItemStatic → Tree
item_static x = t.Node k.AStatic (t.Pair (word_tree x.static_token) (t.Pair (mutability_tree x.mutability)
    (t.Pair (t.Called n.the_name (word_tree x.ident)) (t.Pair (optional_tree marked_type_tree x.ty) (t.Pair
    (optional_tree marked_value_tree x.expr) (mark_tree x.semi_token))))))

-- a use declaration: use a::b;, behind its attributes and its visibility
abbrev pub item_use : ItemUse → Tree
item_use x = t.Node k.AUse (t.Pair (word_tree x.use_token) (t.Pair (t.Called n.the_path x.tree.now)
    (mark_tree x.semi_token)))

-- a crate, behind its attributes and its visibility, with another name or without: extern crate a as b;
abbrev pub item_extern_crate : ItemExternCrate → Tree
item_extern_crate x = t.Node k.AnExternCrate (t.Pair (word_tree x.extern_token) (t.Pair (word_tree x.crate_token)
    (t.Pair (t.Called n.the_name (name_tree x.ident)) (t.Pair (optional_tree renamed_tree x.rename)
    (mark_tree x.semi_token)))))
