-- The trees that traits and their aliases are, and the items in traits.
use Rattle.syn_part.specs.Kept.{IsFirst}
use Rattle.syn_part.specs.Leaves.{mark_tree, optional_tree, turns_tree, word_tree}
use Rattle.syn_grammar.specs.Kind as k
use Rattle.syn_grammar.specs.Name as n
use Rattle.syn_grammar.specs.Tree as t
use Rattle.syn_grammar.specs.Tree.{Tree}
use Rattle.syn_item.specs.ItemParts.{auto_tree, named_tree, safety_tree}
use Rattle.syn_item.specs.declared.traits.ItemTrait.{ItemTrait}
use Rattle.syn_item.specs.declared.traits.ItemTraitAlias.{ItemTraitAlias}
use Rattle.syn_item.specs.declared.traits.TraitForm.{TraitForm}
use Rattle.syn_item.specs.declared.traits.TraitForm.TheVariants as trait_forms
use Rattle.syn_item.specs.declared.traits.TraitHead.{TraitHead}
use Rattle.syn_item.specs.declared.traits.TraitItems.{TraitItems}

-- what a trait and an alias begin with: unsafe auto trait A<T>, the first two if they stand there; and what follows
abbrev pub trait_head : TraitHead → Tree → Tree
trait_head x y = t.Pair (optional_tree safety_tree x.unsafety) (t.Pair (optional_tree auto_tree x.auto_token) (t.Pair
    (word_tree x.trait_token) (t.Pair (named_tree x.ident) (t.Pair (t.Called n.the_generics x.generics.now) y))))

-- what a node holds that is a trait: unsafe auto trait A<T>: B where .. { .. }
abbrev pub trait_inside : ItemTrait → Tree
trait_inside x = t.Pair (optional_tree safety_tree x.unsafety) (t.Pair (optional_tree auto_tree x.modifiers.auto_token)
    (t.Pair (word_tree x.trait_token) (t.Pair (named_tree x.ident) (t.Pair (t.Called n.the_generics x.generics.now)
    (t.Second (t.Pair x.supertraits.now (t.Pair (t.Called n.the_where x.where_clause.now)
    (t.Group x.brace_token.delimiter (t.Pair x.attrs.now x.items.now)))))))))

-- what a node holds that is an alias of traits: trait A<T> = B where ..;, also behind unsafe and auto, behind which
-- none is read
abbrev pub alias_inside : ItemTraitAlias → Tree
alias_inside x = t.Pair (optional_tree safety_tree x.unsafety) (t.Pair (optional_tree auto_tree x.auto_token)
    (t.Pair (word_tree x.trait_token) (t.Pair (named_tree x.ident) (t.Pair (t.Called n.the_generics x.generics.now)
    (t.First (t.Pair (t.Called n.the_equals (mark_tree x.eq_token)) (t.Pair x.bounds.now (t.Pair
    (t.Called n.the_where x.where_clause.now) (mark_tree x.semi_token)))))))))

-- a trait, or an alias of traits
abbrev pub trait_form_inside : TraitForm → Tree
trait_form_inside (trait_forms.Trait x) = trait_inside x
trait_form_inside (trait_forms.Alias x) = alias_inside x

-- a trait or an alias of traits, which is kept as it was read, behind its attributes and its visibility
abbrev pub trait_form_tree : TraitForm → Tree
trait_form_tree x = t.Node k.ATrait (t.First (trait_form_inside x))

-- a trait that is kept as it was read, behind its attributes and its visibility
abbrev pub item_trait : ItemTrait → Tree
item_trait x = t.Node k.ATrait (t.First (trait_inside x))

-- an alias of traits that is kept as it was read, likewise
abbrev pub item_trait_alias : ItemTraitAlias → Tree
item_trait_alias x = t.Node k.ATrait (t.First (alias_inside x))

-- of a trait or an alias, however it is judged, what stands behind the generic parameters
abbrev pub behind_head : Tree → Tree
behind_head (t.Pair a (t.Pair b (t.Pair c (t.Pair d (t.Pair e y))))) = y
behind_head _ = t.Nil

-- of a node that is a trait or an alias, likewise
abbrev pub trait_end : Tree → Tree
trait_end (t.Node k.ATrait (t.First x)) = behind_head x
trait_end (t.Node k.ATrait (t.Verbatim x)) = behind_head x
trait_end _ = t.Nil

-- the second of a choice
abbrev pub IsSecond : Tree → Type 0
IsSecond (t.Second x) = Unit {0}
IsSecond _ = ⊥

-- a trait: its braces were chosen
abbrev pub IsTrait : Tree → Type 0
IsTrait x = IsSecond (trait_end x)

-- an alias of traits: its = was chosen
abbrev pub IsAlias : Tree → Type 0
IsAlias x = IsFirst (trait_end x)

-- the items of a trait, one behind the other
abbrev pub trait_items : TraitItems → Tree
trait_items x = t.Node k.TraitItems (turns_tree x.items)
