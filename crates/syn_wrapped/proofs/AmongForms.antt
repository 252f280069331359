-- Items among others: that each form is chosen where the grammar reads it, and is found there.
use Rattle.reader_tree.specs.Forms.{seconds}
use Rattle.std.proofs.Common.{◌∙◌, ap, inl, inr, subst, sym}
use Rattle.std.specs.Prelude.{◌≡◌, ◌⊎◌, Bool, cond, false, refl, true, ℕ, suc, zero}
use Rattle.syn_part.proofs.Absent.{shaped_never}
use Rattle.syn_part.specs.Shape.{IsShaped}
use Rattle.syn_data.specs.Derive.{attributes_of, visibility_of}
use Rattle.syn_grammar.specs.Gram as g
use Rattle.syn_grammar.specs.Kind as k
use Rattle.syn_grammar.specs.Kind.{Kind}
use Rattle.syn_grammar.specs.Lists.{item_form}
use Rattle.syn_grammar.specs.Name as n
use Rattle.syn_grammar.specs.Part.{choice}
use Rattle.syn_grammar.specs.Table.{table}
use Rattle.syn_grammar.specs.Tree as t
use Rattle.syn_grammar.specs.Tree.{Tree}
use Rattle.syn_item.specs.ItemForms.{HasForm, Is, IsFunction, IsMacro, IsOf, IsTypeAlias}
use Rattle.syn_item.specs.ItemTraits.{IsAlias, IsTrait}
use Rattle.syn_item.specs.declared.item.Item.{Item}
use Rattle.syn_item.specs.declared.item.ItemForm.{ItemForm}
use Rattle.syn_item.specs.declared.item.ItemForm.TheVariants as forms
use Rattle.syn_wrapped.specs.Among.{IsKeptIn, IsOfForm, MayStand, among_by, among_item, before, chosen_form}
use Rattle.syn_wrapped.specs.Among.{form_entry, holds, item_parts, kept_item}

-- where two alternatives read the same, either may be chosen
either : (b : Bool) (m l : ℕ) (x : Tree) → IsShaped (seconds m (t.First x)) item_form
    → IsShaped (seconds l (t.First x)) item_form → IsShaped (seconds (cond b m l) (t.First x)) item_form
either true m l x p q = p
either false m l x p q = q

-- what is chosen has the shape of an item's form
pub chosen_shaped : (f : ItemForm) (x : Tree) → IsShaped x (form_entry f) → IsShaped (chosen_form f x) item_form
chosen_shaped forms.Fn x h = h
chosen_shaped forms.ExternCrate x h = h
chosen_shaped forms.ForeignMod x h = either (holds n.the_safety x) 8 2 x h h
chosen_shaped forms.Use x h = h
chosen_shaped forms.Static x h = h
chosen_shaped forms.Const x h = h
chosen_shaped forms.Mod x h = either (holds n.the_safety x) 9 12 x h h
chosen_shaped forms.«Type» x h = h
chosen_shaped forms.Struct x h = h
chosen_shaped forms.Enum x h = h
chosen_shaped forms.Union x h = h
chosen_shaped forms.Trait x h = either (holds n.the_safety x) 11 18 x h h
chosen_shaped forms.TraitAlias x h = either (holds n.the_safety x) 11 18 x h h
chosen_shaped forms.Impl x h =
    let l = cond (holds n.the_safety x) 10 19 in
    either (holds n.the_default x) 19 (cond (holds n.the_const x) 6 l) x h
    (either (holds n.the_const x) 6 l x h (either (holds n.the_safety x) 10 19 x h h))
chosen_shaped forms.Macro x h = h
chosen_shaped forms.Verbatim x h = absurd (shaped_never x h)

-- behind so many alternatives the same is chosen
behind_seconds : (l : ℕ) (x : Tree) → choice (seconds l (t.First x)) ≡ choice x
behind_seconds zero x = refl
behind_seconds (suc l) x = behind_seconds l x

-- no node is a choice
node_chosen : (i : Kind) (x : Tree) → IsOf i x → choice x ≡ x
node_chosen i (t.Node j y) h = refl
node_chosen i _ h = absurd h

function_chosen : (x : Tree) → IsFunction x → choice x ≡ x
function_chosen (t.Node i y) h = refl
function_chosen _ h = absurd h

alias_chosen : (x : Tree) → IsTypeAlias x → choice x ≡ x
alias_chosen (t.Node i y) h = refl
alias_chosen _ h = absurd h

macro_chosen : (x : Tree) → IsMacro x → choice x ≡ x
macro_chosen (t.Node i y) h = refl
macro_chosen _ h = absurd h

trait_chosen : (x : Tree) → IsTrait x → choice x ≡ x
trait_chosen (t.Node i y) h = refl
trait_chosen _ h = absurd h

trait_alias_chosen : (x : Tree) → IsAlias x → choice x ≡ x
trait_alias_chosen (t.Node i y) h = refl
trait_alias_chosen _ h = absurd h

form_chosen : (f : ItemForm) (x : Tree) → HasForm f x → choice x ≡ x
form_chosen forms.Const x h = node_chosen k.AConst x h
form_chosen forms.Enum x h = node_chosen k.AnEnum x h
form_chosen forms.ExternCrate x h = node_chosen k.AnExternCrate x h
form_chosen forms.Fn x h = function_chosen x h
form_chosen forms.ForeignMod x h = node_chosen k.AForeignModule x h
form_chosen forms.Impl x h = node_chosen k.AnImpl x h
form_chosen forms.Macro x h = macro_chosen x h
form_chosen forms.Mod x h = node_chosen k.AModule x h
form_chosen forms.Static x h = node_chosen k.AStatic x h
form_chosen forms.Struct x h = node_chosen k.AStruct x h
form_chosen forms.Trait x h = trait_chosen x h
form_chosen forms.TraitAlias x h = trait_alias_chosen x h
form_chosen forms.«Type» x h = alias_chosen x h
form_chosen forms.Union x h = node_chosen k.AUnion x h
form_chosen forms.Use x h = node_chosen k.AUse x h
form_chosen forms.Verbatim x h = absurd h

-- what is found where a form was chosen is that form
found_again : (f : ItemForm) (x : Tree) → HasForm f x → choice (chosen_form f x) ≡ x
found_again f x h = behind_seconds (before f x) x ∙ form_chosen f x h

has_form : (f : ItemForm) (x : Tree) → (f ≡ forms.Verbatim → ⊥) → HasForm f x ⊎ (f ≡ forms.Verbatim) → HasForm f x
has_form f x d h = elim h [ inl p ↦ p | inr e ↦ absurd (d e) ]

-- an item that is kept is what its form says
pub kept_is : (a v y : Tree) (i : Item) → y ≡ kept_item a v i.form i.tree.now → (i.form ≡ forms.Verbatim → ⊥)
    → IsOfForm i → Is y i
kept_is a v y i e d h =
    let p : HasForm i.form i.tree.now = has_form i.form i.tree.now d h in
    subst (λ z. Is z i) (sym e) (found_again i.form i.tree.now p, p)

-- it has its attributes and its visibility
pub kept_attributes : (a v y : Tree) (i : Item) → y ≡ kept_item a v i.form i.tree.now → attributes_of y ≡ a
kept_attributes a v y i e = subst (λ z. attributes_of z ≡ a) (sym e) refl

pub kept_visibility : (a v y : Tree) (i : Item) → y ≡ kept_item a v i.form i.tree.now → visibility_of y ≡ v
kept_visibility a v y i e = subst (λ z. visibility_of z ≡ v) (sym e) refl

-- and it has the shape of an item among others, where these have theirs
pub kept_shaped : (a v y : Tree) (i : Item) → y ≡ kept_item a v i.form i.tree.now
    → IsShaped a (g.ref k.OuterAttributes) → IsShaped v (g.ref k.Visibility) → IsShaped i.tree.now (form_entry i.form)
    → IsShaped y (g.ref k.AnItem)
unfolding table
kept_shaped a v y i e p q h =
    subst (λ z. IsShaped z (g.ref k.AnItem)) (sym e)
    (refl, (p, ((refl, q), (refl, chosen_shaped i.form i.tree.now h))))

-- one that is kept is the item among others
kept_among : (f : ItemForm) (a v x : Tree) → (f ≡ forms.Verbatim → ⊥) → kept_item a v f x ≡ among_by a v f x
kept_among forms.Verbatim a v x d = absurd (d refl)
kept_among f a v x d = refl

pub kept_same : (a v y : Tree) (i : Item) → y ≡ kept_item a v i.form i.tree.now → (i.form ≡ forms.Verbatim → ⊥)
    → y ≡ among_item a v i
kept_same a v y i e d = e ∙ kept_among i.form a v i.tree.now d

-- the same parts are kept by the grammar, and are the item that is kept
pub kept_parts : (p z : Tree) → p ≡ z → IsKeptIn k.InFile p → IsKeptIn k.InFile z
kept_parts p z e h = subst (IsKeptIn k.InFile) e h

pub parts_kept : (p z : Tree) → p ≡ z → (IsKeptIn k.InFile p → ⊥) → IsKeptIn k.InFile z → ⊥
parts_kept p z e d h = d (subst (IsKeptIn k.InFile) (sym e) h)

pub kept_at : (a v y p : Tree) (i : Item) → y ≡ t.Node k.AnItem (t.First p) → p ≡ item_parts a v i.form i.tree.now
    → y ≡ kept_item a v i.form i.tree.now
kept_at a v y p i e d = e ∙ ap (λ z. t.Node k.AnItem (t.First z)) d

pub ruleset in_file = (kept_parts, parts_kept, kept_at)

-- it may stand there where the grammar keeps it
pub may_stand : (f : ItemForm) (a v x : Tree) → (f ≡ forms.Verbatim → ⊥) → IsKeptIn k.InFile (item_parts a v f x)
    → MayStand a v f x
may_stand forms.Verbatim a v x d h = absurd (d refl)
may_stand f a v x d h = h

pub may_not_stand : (f : ItemForm) (a v x : Tree) → (f ≡ forms.Verbatim → ⊥)
    → (IsKeptIn k.InFile (item_parts a v f x) → ⊥) → MayStand a v f x → ⊥
may_not_stand forms.Verbatim a v x d h m = d refl
may_not_stand f a v x d h m = h m

pub ruleset kept_items =
    (kept_same, kept_is, kept_attributes, kept_visibility, kept_shaped, may_stand, may_not_stand)

-- where nothing stands before an item, that has its shape
pub no_attributes_shaped : IsShaped (t.Node k.OuterAttributes t.End) (g.ref k.OuterAttributes)
unfolding table
no_attributes_shaped = (refl, tt)

pub inherited_shaped : IsShaped (t.Node k.Visibility (t.Second t.Nil)) (g.ref k.Visibility)
unfolding table
inherited_shaped = (refl, tt)

pub ruleset plain_shaped = (no_attributes_shaped, inherited_shaped)
