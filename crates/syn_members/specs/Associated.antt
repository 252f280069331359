-- The trees that the items of traits and impls are, by the enum that holds their form.
use Rattle.std.specs.Prelude.{◌≡◌}
use Rattle.syn_grammar.specs.Tree as t
use Rattle.syn_grammar.specs.Tree.{Tree}
use Rattle.syn_item.specs.ItemAliases.{IsOrderIn, item_const, item_type}
use Rattle.syn_item.specs.ItemFunctions.{IsItemFn}
use Rattle.syn_item.specs.ItemMacros.{item_macro}
use Rattle.syn_members.specs.declared.associated.AssociatedItem.{AssociatedItem}
use Rattle.syn_members.specs.declared.associated.AssociatedItem.TheVariants as members

-- the tree holds the item of a trait or an impl: as the alternative that the grammar chooses the form of a function, a
-- constant, a type or a macro, or all that was read, where its tokens are kept
abbrev pub IsAssociated : Tree → AssociatedItem → Type 0
IsAssociated (t.First y) (members.Fn x) = IsItemFn x y
IsAssociated (t.Second (t.First y)) (members.Const x) = y ≡ item_const x
IsAssociated (t.Second (t.Second (t.First y))) (members.«Type» x) = (y ≡ item_type x) × IsOrderIn x.place x.where_order
IsAssociated (t.Second (t.Second (t.Second (t.First y)))) (members.Macro x) = y ≡ item_macro x
IsAssociated (t.Verbatim y) (members.Verbatim x) = y ≡ x.now
IsAssociated _ _ = ⊥
