-- The trees that fields and variants are.
use Rattle.std.specs.Prelude.{◌≡◌, None, Option, Some}
use Rattle.syn_part.specs.Name.{name_tree}
use Rattle.syn_part.specs.Leaves.{list_tree, mark_tree, optional_tree, word_tree}
use Rattle.syn_part.specs.Sub.{marked_value_tree}
use Rattle.syn_part.specs.declared.name.Name.{Name}
use Rattle.syn_part.specs.declared.leaf.Mark.{Mark}
use Rattle.syn_part.specs.declared.sub.MarkedValue.{MarkedValue}
use Rattle.syn_data.specs.declared.data.Field.{Field}
use Rattle.syn_data.specs.declared.data.Fields.{Fields}
use Rattle.syn_data.specs.declared.data.FieldsNamed.{FieldsNamed}
use Rattle.syn_data.specs.declared.data.FieldsUnnamed.{FieldsUnnamed}
use Rattle.syn_data.specs.declared.data.NamedField.{NamedField}
use Rattle.syn_data.specs.declared.data.UnnamedField.{UnnamedField}
use Rattle.syn_data.specs.declared.data.Variant.{Variant}
use Rattle.syn_data.specs.declared.data.Fields.TheVariants as fields
use Rattle.syn_grammar.specs.Kind as k
use Rattle.syn_grammar.specs.Tree as t
use Rattle.syn_grammar.specs.Tree.{Tree}
use denote.Bor.{Bor}

-- a field of these parts, with a name: attributes, visibility, name, colon, type, and = and a value or none
abbrev pub named_tree : Bor Tree → Bor Tree → Name → Mark → Bor Tree → Option MarkedValue → Tree
named_tree a v i c x d = t.Node k.NamedField (t.Pair a.now (t.Pair v.now (t.Pair (name_tree i) (t.Pair (mark_tree c)
    (t.Pair x.now (optional_tree marked_value_tree d))))))

-- a field with a name: pub a: T = b
abbrev pub named_field : NamedField → Tree
named_field x = named_tree x.attrs x.vis x.ident x.colon_token x.ty x.default

-- a field of these parts, without a name: attributes, visibility, type
abbrev pub unnamed_tree : Bor Tree → Bor Tree → Bor Tree → Tree
unnamed_tree a v x = t.Node k.UnnamedField (t.Pair a.now (t.Pair v.now (t.Pair x.now (t.Second t.Nil))))

-- a field without a name: pub T
abbrev pub unnamed_field : UnnamedField → Tree
unnamed_field x = unnamed_tree x.attrs x.vis x.ty

-- the tree is a field of these parts, with a name, a colon and perhaps a value, or without all three
abbrev pub IsFieldOf : Option Name → Option Mark → Option MarkedValue → Bor Tree → Bor Tree → Bor Tree → Tree → Type 0
IsFieldOf (Some i) (Some c) d a v x y = y ≡ named_tree a v i c x d
IsFieldOf None None None a v x y = y ≡ unnamed_tree a v x
IsFieldOf _ _ _ a v x y = ⊥

-- the tree is that field
abbrev pub IsField : Field → Tree → Type 0
IsField f y = IsFieldOf f.ident f.colon_token f.default f.attrs f.vis f.ty y

-- fields with names, in their braces: { a: T }
abbrev pub fields_named : FieldsNamed → Tree
fields_named x = t.Node k.NamedFields (t.Group x.brace_token.delimiter (list_tree x.named))

-- fields without names, in their parentheses: (T, U)
abbrev pub fields_unnamed : FieldsUnnamed → Tree
fields_unnamed x = t.Node k.UnnamedFields (t.Group x.paren_token.delimiter (list_tree x.unnamed))

-- the fields of a variant, behind its name: in braces, in parentheses, or none
abbrev pub variant_fields : Fields → Tree
variant_fields (fields.Named x) = t.First (fields_named x)
variant_fields (fields.Unnamed x) = t.Second (t.First (fields_unnamed x))
variant_fields fields.Unit = t.Second (t.Second t.Nil)

-- a variant of an enum, with its attributes and a visibility that is no part of the program: A { b: T } = c
abbrev pub variant : Variant → Tree
variant x = t.Node k.Variant (t.Pair x.attrs.now (t.Pair (t.Dropped x.vis.now) (t.Pair (word_tree x.ident) (t.Pair
    (variant_fields x.fields) (optional_tree marked_value_tree x.discriminant)))))
