-- Items among others, of their attributes, their visibility and their form.
use Rattle.reader_tree.specs.Forms.{seconds}
use Rattle.std.specs.Prelude.{◌≡◌, ◌⊎◌, Bool, cond, false, ℕ}
use Rattle.syn_data.specs.Derive.{item_inside}
use Rattle.syn_data.specs.declared.derive.Data.{Data}
use Rattle.syn_data.specs.declared.derive.Data.TheVariants as datas
use Rattle.syn_grammar.specs.Gram.{Gram, Keep, never, ref}
use Rattle.syn_grammar.specs.Kind as k
use Rattle.syn_grammar.specs.Name as n
use Rattle.syn_grammar.specs.Name.{Part}
use Rattle.syn_grammar.specs.Part.{has}
use Rattle.syn_grammar.specs.Tree as t
use Rattle.syn_grammar.specs.Tree.{Tree}
use Rattle.syn_grammar.specs.Verdicts.{item_verdict}
use Rattle.syn_item.specs.ItemForms.{HasForm}
use Rattle.syn_item.specs.declared.item.Item.{Item}
use Rattle.syn_item.specs.declared.item.ItemForm.{ItemForm}
use Rattle.syn_item.specs.declared.item.ItemForm.TheVariants as forms

-- a node has a part of that name
abbrev pub holds : Part → Tree → Bool
holds p (t.Node i x) = has p x
holds p _ = false

-- how many alternatives stand before the one by which an item of the form is read in a file; where several read it,
-- that is by the words in front
abbrev pub before : ItemForm → Tree → ℕ
before forms.Fn x = 0
before forms.ExternCrate x = 1
before forms.ForeignMod x = cond (holds n.the_safety x) 8 2
before forms.Use x = 3
before forms.Static x = 4
before forms.Const x = 7
before forms.Mod x = cond (holds n.the_safety x) 9 12
before forms.«Type» x = 13
before forms.Struct x = 14
before forms.Enum x = 15
before forms.Union x = 16
before forms.Trait x = cond (holds n.the_safety x) 11 18
before forms.TraitAlias x = cond (holds n.the_safety x) 11 18
before forms.Impl x = cond (holds n.the_default x) 19 (cond (holds n.the_const x) 6 (cond (holds n.the_safety x) 10 19))
before forms.Macro x = 21
before forms.Verbatim x = 22

-- the form, as it is chosen in a file
abbrev pub chosen_form : ItemForm → Tree → Tree
chosen_form f x = seconds (before f x) (t.First x)

-- an item that is kept, of its attributes, its visibility and its form
abbrev pub kept_item : Tree → Tree → ItemForm → Tree → Tree
kept_item a v f x = t.Node k.AnItem (item_inside a v (chosen_form f x))

-- an item among others: kept, of its attributes, its visibility and its form, or its tokens alone
abbrev pub among_by : Tree → Tree → ItemForm → Tree → Tree
among_by a v forms.Verbatim x = t.Node k.AnItem (t.Verbatim x)
among_by a v f x = kept_item a v f x

-- the same, by what the item is
abbrev pub among_item : Tree → Tree → Item → Tree
among_item a v i = among_by a v i.form i.tree.now

-- the entry that reads the form; one that is kept as its tokens is of none
abbrev pub form_entry : ItemForm → Gram
form_entry forms.Fn = ref (k.AFunction k.InFile)
form_entry forms.ExternCrate = ref k.AnExternCrate
form_entry forms.ForeignMod = ref k.AForeignModule
form_entry forms.Use = ref k.AUse
form_entry forms.Static = ref k.AStatic
form_entry forms.Const = ref k.AConst
form_entry forms.Mod = ref k.AModule
form_entry forms.«Type» = ref (k.ATypeAlias k.InFile)
form_entry forms.Struct = ref k.AStruct
form_entry forms.Enum = ref k.AnEnum
form_entry forms.Union = ref k.AUnion
form_entry forms.Trait = ref k.ATrait
form_entry forms.TraitAlias = ref k.ATrait
form_entry forms.Impl = ref k.AnImpl
form_entry forms.Macro = ref (k.ItemMacro k.InFile)
form_entry forms.Verbatim = never

-- the tree of an item has the form that is said, or its tokens are kept
abbrev pub IsOfForm : Item → Type 0
IsOfForm x = HasForm x.form x.tree.now ⊎ (x.form ≡ forms.Verbatim)

-- the form of an item that data is
abbrev pub data_item_form : Data → ItemForm
data_item_form (datas.Struct x) = forms.Struct
data_item_form (datas.Enum x) = forms.Enum
data_item_form (datas.Union x) = forms.Union

-- what stands in such a place is kept by the grammar: it is not refused there, and not its tokens alone are kept. Of an
-- impl, an extern block and a macro no visibility is; of a trait's items none behind one or behind default
abbrev pub IsKeptIn : k.Place → Tree → Type 0
IsKeptIn p x = item_verdict p x ≡ Keep

-- attributes, a visibility and the form of an item, as it is chosen in a file
abbrev pub item_parts : Tree → Tree → ItemForm → Tree → Tree
item_parts a v f x = t.Pair a (t.Pair (t.Called n.the_visibility v) (t.Called n.the_item (chosen_form f x)))

-- an item among others is kept there, or is its tokens alone
abbrev pub MayStand : Tree → Tree → ItemForm → Tree → Type 0
MayStand a v forms.Verbatim x = Unit {0}
MayStand a v f x = IsKeptIn k.InFile (item_parts a v f x)
