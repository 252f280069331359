-- The trees that macros are which stand as items.
use Rattle.reader_table.specs.Kinds.{place_of}
use Rattle.reader_table.specs.declared.kind.Place.{Place}
use Rattle.reader_table.specs.declared.kind.Place.TheVariants as places
use Rattle.std.specs.Prelude.{None, Option, Some}
use Rattle.syn_part.specs.Leaves.{mark_tree, optional_tree, raw_tree}
use Rattle.syn_part.specs.declared.name.Name.{Name}
use Rattle.syn_part.specs.declared.leaf.Mark.{Mark}
use Rattle.syn_ast.specs.declared.paths.MacroDelimiter.{MacroDelimiter}
use Rattle.syn_ast.specs.declared.paths.MacroDelimiter.TheVariants as delimiters
use Rattle.syn_grammar.specs.Kind as k
use Rattle.syn_grammar.specs.Tree as t
use Rattle.syn_grammar.specs.Tree.{Tree}
use Rattle.syn_item.specs.ItemParts.{name_or_tree}
use Rattle.syn_item.specs.declared.macros.ItemMacro.{ItemMacro}

-- the name behind the !, which may stand in a file, a module or a block alone; with one elsewhere there is no tree
abbrev pub macro_name_tree : Place → Option Name → Tree
macro_name_tree places.InFile o = optional_tree name_or_tree o
macro_name_tree places.InForeign None = t.Nil
macro_name_tree places.InTrait None = t.Nil
macro_name_tree places.InImpl None = t.Nil
macro_name_tree places.InForeign (Some i) = t.End
macro_name_tree places.InTrait (Some i) = t.End
macro_name_tree places.InImpl (Some i) = t.End

-- the tokens of a macro in their delimiters, and the ; behind parentheses and brackets, and none behind braces; else
-- there is no tree
abbrev pub macro_end_tree : MacroDelimiter → Option Mark → Tree → Tree
macro_end_tree (delimiters.Brace d) None x = t.First (t.Group d.delimiter x)
macro_end_tree (delimiters.Brace d) (Some m) x = t.Nil
macro_end_tree (delimiters.Paren d) (Some m) x = t.Second (t.Pair (t.First (t.Group d.delimiter x)) (mark_tree m))
macro_end_tree (delimiters.Paren d) None x = t.Nil
macro_end_tree (delimiters.Bracket d) (Some m) x = t.Second (t.Pair (t.Second (t.Group d.delimiter x)) (mark_tree m))
macro_end_tree (delimiters.Bracket d) None x = t.Nil

-- a macro as an item, by the place where it stands, behind its attributes: a::b! c { d }, a!(b);
abbrev pub item_macro : ItemMacro → Tree
item_macro x = t.Node (k.ItemMacro (place_of x.place)) (t.Pair x.path.now (t.Pair (mark_tree x.bang_token) (t.Pair
    (macro_name_tree x.place x.ident) (macro_end_tree x.delimiter x.semi_token (raw_tree x.tokens)))))
