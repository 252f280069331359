-- The trees that the items of extern blocks are, by the enum that holds their form.
use Rattle.std.specs.Prelude.{◌≡◌}
use Rattle.syn_grammar.specs.Name as n
use Rattle.syn_grammar.specs.Tree as t
use Rattle.syn_grammar.specs.Tree.{Tree}
use Rattle.syn_item.specs.ItemAliases.{IsOrderIn, item_type}
use Rattle.syn_item.specs.ItemFunctions.{IsItemFn, IsSafety}
use Rattle.syn_item.specs.ItemMacros.{item_macro}
use Rattle.syn_item.specs.ItemMembers.{foreign_static}
use Rattle.syn_members.specs.declared.foreign.ForeignItem.{ForeignItem}
use Rattle.syn_members.specs.declared.foreign.ForeignItem.TheVariants as foreigns

-- the tree holds the item of an extern block: as the alternative that the grammar chooses the form of a function, a
-- type or a macro, as a part, or a static with its safety, or all that was read, where its tokens are kept
abbrev pub IsForeign : Tree → ForeignItem → Type 0
IsForeign (t.First (t.Called m y)) (foreigns.Fn x) = (m ≡ n.the_item) × IsItemFn x y
IsForeign (t.Second (t.First y)) (foreigns.Static x) = (y ≡ foreign_static x) × IsSafety x.safety
IsForeign (t.Second (t.Second (t.First (t.Called m y)))) (foreigns.«Type» x) =
    (m ≡ n.the_item) × (y ≡ item_type x) × IsOrderIn x.place x.where_order
IsForeign (t.Second (t.Second (t.Second (t.First (t.Called m y))))) (foreigns.Macro x) =
    (m ≡ n.the_item) × (y ≡ item_macro x)
IsForeign (t.Verbatim y) (foreigns.Verbatim x) = y ≡ x.now
IsForeign _ _ = ⊥
