-- The trees that modules, extern blocks and the items in them are.
use Rattle.std.specs.Prelude.{None, Option, Some}
use Rattle.syn_part.specs.Leaves.{mark_tree, optional_tree, turns_tree, word_tree}
use Rattle.syn_part.specs.declared.leaf.Mark.{Mark}
use Rattle.syn_grammar.specs.Kind as k
use Rattle.syn_grammar.specs.Tree as t
use Rattle.syn_grammar.specs.Tree.{Tree}
use Rattle.syn_item.specs.ItemParts.{braced_tree, name_or_tree, safety_tree}
use Rattle.syn_item.specs.declared.modules.ForeignItems.{ForeignItems}
use Rattle.syn_item.specs.declared.modules.ItemForeignMod.{ItemForeignMod}
use Rattle.syn_item.specs.declared.modules.ItemMod.{ItemMod}
use Rattle.syn_item.specs.declared.modules.Items.{Items}
use Rattle.syn_item.specs.declared.part.Braced.{Braced}

-- an extern block: unsafe extern "C" { .. }, behind its attributes
abbrev pub item_foreign_mod : ItemForeignMod → Tree
item_foreign_mod x = t.Node k.AForeignModule (t.Pair (optional_tree safety_tree x.unsafety) (t.Pair x.abi.now
    (t.Group x.brace_token.delimiter (t.Pair x.attrs.now x.items.now))))

-- what stands in a module, or ; and never both, nor neither
abbrev pub module_end_tree : Option Braced → Option Mark → Tree
module_end_tree None (Some m) = t.First (mark_tree m)
module_end_tree (Some b) None = t.Second (braced_tree b)
module_end_tree _ _ = t.Nil

-- a module: mod a { .. }, mod a;, behind its attributes and its visibility
abbrev pub item_mod : ItemMod → Tree
item_mod x = t.Node k.AModule (t.Pair (optional_tree safety_tree x.unsafety) (t.Pair (word_tree x.mod_token) (t.Pair
    (name_or_tree x.ident) (module_end_tree x.content x.semi))))

-- the items of a file or a module, one behind the other
abbrev pub items : Items → Tree
items x = t.Node k.Items (turns_tree x.items)

-- the items of an extern block, one behind the other
abbrev pub foreign_items : ForeignItems → Tree
foreign_items x = t.Node k.ForeignItems (turns_tree x.items)
