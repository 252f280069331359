-- Fields, variants, and structs, enums and unions behind their attributes and their visibility.
use Rattle.std.specs.Prelude.{List, Option, Some, None}
use Rattle.syn_grammar.specs.Tree.{Tree}
use Rattle.syn_grammar.specs.Kind as k
use Rattle.syn_grammar.specs.Name as n
use Rattle.syn_grammar.specs.Tree as t
use Rattle.node_generics.specs.declared.Generics.{Generics}
use Rattle.node_items.specs.declared.data.Field.{Field}
use Rattle.node_items.specs.declared.data.Fields.TheVariants as fields
use Rattle.node_items.specs.declared.data.Fields.{Fields}
use Rattle.node_items.specs.declared.data.FieldsNamed.{FieldsNamed}
use Rattle.node_items.specs.declared.data.FieldsUnnamed.{FieldsUnnamed}
use Rattle.node_items.specs.declared.data.Variant.{Variant}
use Rattle.node_items.specs.declared.derive.Data.TheVariants as datas
use Rattle.node_items.specs.declared.derive.Data.{Data}
use Rattle.node_items.specs.declared.derive.DeriveInput.{DeriveInput}
use Rattle.node_paths.specs.declared.attribute.Attribute.{Attribute}
use Rattle.rust_leaf.specs.declared.ident.Ident.{Ident}
use Rattle.syn_kinds.specs.declared.delimiters.Delimiters.{Delimiters}
use Rattle.syn_kinds.specs.declared.keyword.Keyword.{Keyword}
use Rattle.syn_kinds.specs.declared.punctuation.Punctuation.{Punctuation}
use Rattle.syn_lists.specs.declared.punctuated.Punctuated.{Punctuated}
use Rattle.node_words.specs.Words.{◌▸◌, ◌∶◌, alternative, last, optional, mark, keyword, enclosed, mark_or}
use Rattle.node_words.specs.Words.{name, name_or, list, turns, expression}
use Rattle.node_views.specs.Paths.{attribute, outer_attributes}
use Rattle.node_views.specs.Types.{type_}
use Rattle.node_views.specs.Generics.{generics, where_of, visibility}

-- the attributes of a field or a variant, which are written all in front
abbrev pub all_attributes : {E : Type 0} → (E → Tree) → List (Attribute E) → Tree
all_attributes f xs = t.Node k.OuterAttributes (turns (attribute f) xs)

-- = Expr, as the value of a field, a variant, a constant
abbrev pub value : {E : Type 0} → (E → Tree) → Punctuation 13 1 × E → Tree
value f x = mark x.0 ▸ n.the_value ∶ expression (f x.1)

-- attributes, visibility, Ident : Type, and (= Expr)?; without a name attributes, visibility and Type, behind which
-- only a hand can put = Expr
abbrev pub field_of : {E : Type 0} → (E → Tree) → Option Ident → Field E → Tree
field_of f (Some i) x =
    t.Node k.NamedField (all_attributes f x.attrs.items ▸ visibility f x.vis ▸ name_or "_" i
    ▸ mark_or x.colon_token ▸ type_ f x.ty ▸ optional (value f) x.default)
field_of f None x =
    t.Node k.UnnamedField (all_attributes f x.attrs.items ▸ visibility f x.vis ▸ type_ f x.ty
    ▸ optional (value f) x.default)

abbrev pub field : {E : Type 0} → (E → Tree) → Field E → Tree
field f x = field_of f x.ident x

abbrev pub fields_named : {E : Type 0} → (E → Tree) → FieldsNamed E → Tree
fields_named f x = t.Node k.NamedFields (enclosed x.brace_token (list (field f) x.named))

abbrev pub fields_unnamed : {E : Type 0} → (E → Tree) → FieldsUnnamed E → Tree
fields_unnamed f x = t.Node k.UnnamedFields (enclosed x.paren_token (list (field f) x.unnamed))

-- {fields} or (fields) or none
abbrev pub variant_fields : {E : Type 0} → (E → Tree) → Fields E → Tree
variant_fields f (fields.Named x) = alternative 0 (fields_named f x)
variant_fields f (fields.Unnamed x) = alternative 1 (fields_unnamed f x)
variant_fields f fields.Unit = last 2 t.Nil

abbrev pub variant : {E : Type 0} → (E → Tree) → Variant E → Tree
variant f x =
    t.Node k.Variant (all_attributes f x.attrs.items ▸ t.Nil ▸ name x.ident ▸ variant_fields f x.fields
    ▸ optional (value f) x.discriminant)

-- an item's name and its generics
abbrev pub named : Ident → Tree
named i = n.the_name ∶ name i

abbrev pub generics_of : {E : Type 0} → (E → Tree) → Generics E → Tree
generics_of f x = n.the_generics ∶ generics f x

-- (fields) where? ; or where? {fields} or where? ;. The ; is filled in, and behind braces none is written.
abbrev pub struct_end : {E : Type 0} → (E → Tree) → Fields E → Tree → Option (Punctuation 36 1) → Tree
struct_end f (fields.Unnamed x) w m = t.First (fields_unnamed f x ▸ w ▸ mark_or m)
struct_end f (fields.Named x) w m = t.Second (w ▸ t.First (fields_named f x))
struct_end f fields.Unit w m = t.Second (w ▸ t.Second (mark_or m))

-- struct, enum and union, of their parts
abbrev pub struct_form :
    {E : Type 0} → (E → Tree) → Keyword 37 → Ident → Generics E → Fields E → Option (Punctuation 36 1)
    → Tree
struct_form f w i g x m =
    t.Node k.AStruct (keyword w ▸ named i ▸ generics_of f g ▸ struct_end f x (where_of f g) m)

abbrev pub enum_form :
    {E P : Type 0} → (E → Tree) → Keyword 13 → Ident → Generics E → Delimiters 1
    → Punctuated (Variant E) P → Tree
enum_form f w i g d l =
    t.Node k.AnEnum (keyword w ▸ named i ▸ generics_of f g ▸ where_of f g ▸ enclosed d (list (variant f) l))

abbrev pub union_form : {E : Type 0} → (E → Tree) → Keyword 55 → Ident → Generics E → FieldsNamed E → Tree
union_form f w i g x =
    t.Node k.AUnion (keyword w ▸ named i ▸ generics_of f g ▸ where_of f g ▸ fields_named f x)

-- what a derive reads: attributes, visibility, and one of the three
abbrev pub data_form : {E : Type 0} → (E → Tree) → DeriveInput E → Data E → Tree
data_form f x (datas.Struct y) =
    alternative 0 (struct_form f y.struct_token x.ident x.generics y.fields y.semi_token)
data_form f x (datas.Enum y) =
    alternative 1 (enum_form f y.enum_token x.ident x.generics y.brace_token y.variants)
data_form f x (datas.Union y) = last 2 (union_form f y.union_token x.ident x.generics y.fields)

abbrev pub derive_input : {E : Type 0} → (E → Tree) → DeriveInput E → Tree
derive_input f x =
    t.Node k.DeriveInput (outer_attributes f x.attrs.items ▸ visibility f x.vis ▸ data_form f x x.«data»)
