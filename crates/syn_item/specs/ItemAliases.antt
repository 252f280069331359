-- The trees that type aliases and constants are.
use Rattle.reader_table.specs.Kinds.{place_of}
use Rattle.reader_table.specs.declared.kind.Place.{Place}
use Rattle.reader_table.specs.declared.kind.Place.TheVariants as places
use Rattle.std.specs.Prelude.{◌≡◌, Option}
use Rattle.syn_part.specs.Leaves.{mark_tree, optional_tree, word_tree}
use Rattle.syn_part.specs.Sub.{marked_type_tree, marked_value_tree}
use Rattle.syn_part.specs.declared.sub.MarkedType.{MarkedType}
use Rattle.syn_grammar.specs.Kind as k
use Rattle.syn_grammar.specs.Name as n
use Rattle.syn_grammar.specs.Tree as t
use Rattle.syn_grammar.specs.Tree.{Tree}
use Rattle.syn_item.specs.ItemParts.{name_or_tree, named_tree}
use Rattle.syn_item.specs.declared.alias.ItemType.{ItemType}
use Rattle.syn_item.specs.declared.alias.WhereClausePlacement.{WhereClausePlacement}
use Rattle.syn_item.specs.declared.alias.WhereClausePlacement.TheVariants as placements
use Rattle.syn_item.specs.declared.alias.WhereOrder.{WhereOrder}
use Rattle.syn_item.specs.declared.alias.WhereOrder.TheVariants as orders
use Rattle.syn_item.specs.declared.constant.ItemConst.{ItemConst}
use denote.Bor.{Bor}

-- a definition or none, and behind it a where clause or none
abbrev pub late_tree : Option MarkedType → Bor Tree → Tree
late_tree d w = t.Pair (optional_tree marked_type_tree d) (t.Called n.the_where w.now)

-- a where clause, and behind it a definition or none
abbrev pub early_tree : Option MarkedType → Bor Tree → Tree
early_tree d w = t.Pair (t.Called n.the_where w.now) (optional_tree marked_type_tree d)

-- the placement is the late one, of a where clause that is written, and behind the definition; the early one is of one
-- that is written before it, or not at all
abbrev pub IsLate : WhereClausePlacement → Type 0
IsLate placements.Early = ⊥
IsLate placements.Late = Unit {0}

-- a definition and a where clause, in either order: as the first alternative the where clause first, as the second the
-- definition
abbrev pub either_tree : WhereOrder → Option MarkedType → Bor Tree → Tree
either_tree orders.Before d w = t.First (early_tree d w)
either_tree orders.Behind d w = t.Second (late_tree d w)

-- in a trait or an impl a where clause stands behind the definition alone
abbrev pub IsOrderIn : Place → WhereOrder → Type 0
IsOrderIn places.InFile l = Unit {0}
IsOrderIn places.InForeign l = Unit {0}
IsOrderIn places.InTrait l = l ≡ orders.Behind
IsOrderIn places.InImpl l = l ≡ orders.Behind

-- a definition and a where clause, as the place has them: in a trait or an impl whatever order is said, the definition
-- stands first
abbrev pub type_end_tree : Place → WhereOrder → Option MarkedType → Bor Tree → Tree
type_end_tree places.InFile l d w = either_tree l d w
type_end_tree places.InForeign l d w = either_tree l d w
type_end_tree places.InTrait l d w = late_tree d w
type_end_tree places.InImpl l d w = late_tree d w

-- a type alias, by the place where it stands, behind its attributes and its visibility: type A<T>: B = C where ..;
abbrev pub item_type : ItemType → Tree
item_type x = t.Node (k.ATypeAlias (place_of x.place)) (t.Pair (word_tree x.type_token) (t.Pair (named_tree x.ident)
    (t.Pair (t.Called n.the_generics x.generics.now) (t.Pair (t.Called n.the_bounds x.bounds.now) (t.Pair
    (t.Called n.the_value (type_end_tree x.place x.where_order x.ty x.where_clause))
    (mark_tree x.semi_token))))))

-- a constant, behind its attributes and its visibility, with a value or without: const A: T = b;
abbrev pub item_const : ItemConst → Tree
item_const x = t.Node k.AConst (t.Pair (word_tree x.const_token) (t.Pair (name_or_tree x.ident) (t.Pair
    (t.Called n.the_generics x.generics.now) (t.Pair (mark_tree x.colon_token) (t.Pair (t.Called n.the_type x.ty.now)
    (t.Pair (optional_tree marked_value_tree x.expr) (t.Pair (t.Called n.the_where x.where_clause.now)
    (mark_tree x.semi_token))))))))
