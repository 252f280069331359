-- The trees that parts are which several items have.
use Rattle.syn_part.specs.Name.{name_tree}
use Rattle.syn_part.specs.Leaves.{mark_tree, word_tree}
use Rattle.syn_item.specs.declared.part.Braced.{Braced}
use Rattle.syn_part.specs.declared.name.Name.{Name}
use Rattle.rust_leaf.specs.declared.ident.Ident.{Ident}
use Rattle.syn_part.specs.declared.leaf.Mark.{Mark}
use Rattle.syn_grammar.specs.Name as n
use Rattle.syn_grammar.specs.Tree as t
use Rattle.syn_grammar.specs.Tree.{Tree}
use denote.Bor.{Bor}

-- a name, as a part
abbrev pub named_tree : Bor Ident → Tree
named_tree i = t.Called n.the_name (word_tree i)

-- a name, or the keyword that may stand in its place, as a part
abbrev pub name_or_tree : Name → Tree
name_or_tree i = t.Called n.the_name (name_tree i)

-- unsafe or safe, as a part
abbrev pub safety_tree : Bor Ident → Tree
safety_tree i = t.Called n.the_safety (word_tree i)

-- default, as a part
abbrev pub default_tree : Bor Ident → Tree
default_tree i = t.Called n.the_default (word_tree i)

-- const, as a part
abbrev pub const_tree : Bor Ident → Tree
const_tree i = t.Called n.the_const (word_tree i)

-- auto, as a part
abbrev pub auto_tree : Bor Ident → Tree
auto_tree i = t.Called n.the_auto (word_tree i)

-- the ! of an impl, as a part
abbrev pub polarity_tree : Mark → Tree
polarity_tree s = t.Called n.the_polarity (mark_tree s)

-- braces, with attributes and items in them
abbrev pub braced_tree : Braced → Tree
braced_tree x = t.Group x.brace_token.delimiter (t.Pair x.attrs.now x.items.now)
