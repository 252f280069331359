-- What names and what lists names are in the written grammar.
use Rattle.rust_leaf.specs.Leaf.{ident_text}
use Rattle.syn_grammar.specs.Names as g
use Rattle.reader_rust.specs.declared.names.Named.{Named}
use Rattle.reader_rust.specs.declared.names.Named.TheVariants as kinds
use Rattle.reader_rust.specs.declared.names.Lister.{Lister}
use Rattle.reader_rust.specs.declared.names.Lister.TheVariants as listers
use Rattle.reader_rust.specs.declared.names.Name.{Name}

abbrev pub named_of : Named → g.Named
named_of kinds.Const = g.Const
named_of kinds.Enum = g.Enum
named_of kinds.ExternCrate = g.ExternCrate
named_of kinds.Fn = g.Fn
named_of kinds.Macro = g.Macro
named_of kinds.Mod = g.Mod
named_of kinds.Static = g.Static
named_of kinds.Struct = g.Struct
named_of kinds.Trait = g.Trait
named_of kinds.TraitAlias = g.TraitAlias
named_of kinds.Type = g.Alias
named_of kinds.Union = g.Union

abbrev pub lister_of : Lister → g.Lister
lister_of listers.Nothing = g.Nothing
lister_of listers.Others = g.Others
lister_of (listers.Names kind) = g.Names (named_of kind)

-- a name: what it names, its text, and how many tokens stand before it
abbrev pub name_of : Name → g.Name
name_of name = record { kind = named_of name.kind; text = ident_text name.ident.now; index = name.index }
