-- Which form an item has.
use Rattle.std.specs.Prelude.{◌≡◌}
use Rattle.syn_part.specs.Shape.{IsShaped}
use Rattle.syn_grammar.specs.Gram as g
use Rattle.syn_grammar.specs.Kind.{Kind}
use Rattle.syn_grammar.specs.Kind as k
use Rattle.syn_grammar.specs.Part.{choice}
use Rattle.syn_grammar.specs.Tree as t
use Rattle.syn_grammar.specs.Tree.{Tree}
use Rattle.syn_item.specs.ItemTraits.{IsAlias, IsTrait}
use Rattle.syn_item.specs.declared.item.Item.{Item}
use Rattle.syn_item.specs.declared.item.ItemForm.{ItemForm}
use Rattle.syn_item.specs.declared.item.ItemForm.TheVariants as forms

-- a node of a kind
abbrev pub IsOf : Kind → Tree → Type 0
IsOf i (t.Node j x) = j ≡ i
IsOf i _ = ⊥

-- a function, in whatever place
abbrev pub IsFunction : Tree → Type 0
IsFunction (t.Node (k.AFunction p) x) = Unit {0}
IsFunction _ = ⊥

-- a type alias, in whatever place
abbrev pub IsTypeAlias : Tree → Type 0
IsTypeAlias (t.Node (k.ATypeAlias p) x) = Unit {0}
IsTypeAlias _ = ⊥

-- a macro, in whatever place
abbrev pub IsMacro : Tree → Type 0
IsMacro (t.Node (k.ItemMacro p) x) = Unit {0}
IsMacro _ = ⊥

-- a tree is of the form, by its kind, and a trait or an alias of traits by what stands behind its generic parameters;
-- none is of the form of an item that is kept as its tokens
abbrev pub HasForm : ItemForm → Tree → Type 0
HasForm forms.Const x = IsOf k.AConst x
HasForm forms.Enum x = IsOf k.AnEnum x
HasForm forms.ExternCrate x = IsOf k.AnExternCrate x
HasForm forms.Fn x = IsFunction x
HasForm forms.ForeignMod x = IsOf k.AForeignModule x
HasForm forms.Impl x = IsOf k.AnImpl x
HasForm forms.Macro x = IsMacro x
HasForm forms.Mod x = IsOf k.AModule x
HasForm forms.Static x = IsOf k.AStatic x
HasForm forms.Struct x = IsOf k.AStruct x
HasForm forms.Trait x = IsTrait x
HasForm forms.TraitAlias x = IsAlias x
HasForm forms.«Type» x = IsTypeAlias x
HasForm forms.Union x = IsOf k.AUnion x
HasForm forms.Use x = IsOf k.AUse x
HasForm forms.Verbatim x = ⊥

-- a tree has not the shape of a constant, an enum, an extern crate, a function, an extern block, an impl, a macro or a
-- module
abbrev pub HasNoBody : Tree → Type 0
HasNoBody x = (IsShaped x (g.ref k.AConst) → ⊥) × (IsShaped x (g.ref k.AnEnum) → ⊥) × (IsShaped x
    (g.ref k.AnExternCrate) → ⊥) × ((p : k.Place) → IsShaped x (g.ref (k.AFunction p)) → ⊥) × (IsShaped x
    (g.ref k.AForeignModule) → ⊥) × (IsShaped x (g.ref k.AnImpl) → ⊥) × ((p : k.Place) → IsShaped x (g.ref
    (k.ItemMacro p)) → ⊥) × (IsShaped x (g.ref k.AModule) → ⊥)

-- nor of a static, a struct, a trait or an alias of traits, a type alias, a union or a use declaration
abbrev pub IsNoOther : Tree → Type 0
IsNoOther x = (IsShaped x (g.ref k.AStatic) → ⊥) × (IsShaped x (g.ref k.AStruct) → ⊥) × (IsShaped x (g.ref k.ATrait)
    → ⊥) × ((p : k.Place) → IsShaped x (g.ref (k.ATypeAlias p)) → ⊥) × (IsShaped x (g.ref k.AUnion) → ⊥) × (IsShaped x
    (g.ref k.AUse) → ⊥)

-- a form of an item that may be kept as it was read: no const trait, no restricted trait and no definition of a macro,
-- of which the tokens are kept
abbrev pub MayBeKept : Tree → Type 0
MayBeKept (t.Node k.AConstTrait x) = ⊥
MayBeKept (t.Node k.ARestrictedTrait x) = ⊥
MayBeKept (t.Node k.AMacroDefinition x) = ⊥
MayBeKept _ = Unit {0}

-- of an item that is kept as it was read, its form: what stands behind its attributes and its visibility
abbrev pub form_behind : Tree → Tree
form_behind (t.Pair a (t.Pair v (t.Called m x))) = choice x
form_behind _ = t.Nil

-- a node of the kind of items among others; if it is kept as it was read, its form may be
abbrev pub IsItem : Tree → Type 0
IsItem (t.Node k.AnItem (t.First x)) = MayBeKept (form_behind x)
IsItem (t.Node k.AnItem (t.Verbatim x)) = Unit {0}
IsItem _ = ⊥

-- what an item is: one that is kept as it was read has the form, and is the tree behind its attributes and its
-- visibility; of one that is kept as its tokens, all that was read is the tree
abbrev pub Is : Tree → Item → Type 0
Is (t.Node k.AnItem (t.First y)) x = (form_behind y ≡ x.tree.now) × HasForm x.form x.tree.now
Is (t.Node k.AnItem (t.Verbatim y)) x = (y ≡ x.tree.now) × (x.form ≡ forms.Verbatim)
Is _ x = ⊥
