-- The trees that the types of attributes are.
use Rattle.syn_part.specs.Leaves.{mark_tree, turns_tree, word_tree}
use Rattle.syn_ast.specs.declared.attributes.AttrStyle.{AttrStyle}
use Rattle.syn_ast.specs.declared.attributes.Attribute.{Attribute}
use Rattle.syn_ast.specs.declared.attributes.InnerAttributes.{InnerAttributes}
use Rattle.syn_ast.specs.declared.attributes.Meta.{Meta}
use Rattle.syn_ast.specs.declared.attributes.MetaPath.{MetaPath}
use Rattle.syn_ast.specs.declared.attributes.OuterAttributes.{OuterAttributes}
use Rattle.syn_ast.specs.declared.attributes.AttrStyle.TheVariants as styles
use Rattle.syn_ast.specs.declared.attributes.Meta.TheVariants as metas
use Rattle.syn_ast.specs.declared.attributes.MetaPath.TheVariants as paths
use Rattle.syn_part.specs.declared.leaf.Mark.{Mark}
use Rattle.syn_grammar.specs.Kind as k
use Rattle.syn_grammar.specs.Name as n
use Rattle.syn_grammar.specs.Tree as t
use Rattle.syn_grammar.specs.Tree.{Tree}

-- outer attributes, one behind the other: #[a] #[b]
abbrev pub outer_attributes : OuterAttributes → Tree
outer_attributes x = t.Node k.OuterAttributes (turns_tree x.attrs)

-- inner attributes, one behind the other: #![a] #![b]
abbrev pub inner_attributes : InnerAttributes → Tree
inner_attributes x = t.Node k.InnerAttributes (turns_tree x.attrs)

-- an attribute by its style: #[a], or with a ! behind the #
abbrev pub styled : AttrStyle → Mark → Tree → Tree
styled styles.Outer m x = t.Node k.OuterAttribute (t.Pair (mark_tree m) x)
styled (styles.Inner n) m x = t.Node k.InnerAttribute (t.Pair (mark_tree m) (t.Pair (mark_tree n) x))

-- an attribute: #[a], #![a]
abbrev pub attribute : Attribute → Tree
attribute x = styled x.style x.pound_token (t.Group x.bracket_token.delimiter x.meta.now)

-- what an attribute begins with: unsafe, or a path
abbrev pub meta_path_tree : MetaPath → Tree
meta_path_tree (paths.Unsafe i) = t.First (word_tree i)
meta_path_tree (paths.Path x) = t.Second x.now

-- = and a value
abbrev pub meta_value_tree : Mark → Tree → Tree
meta_value_tree m x = t.Pair (mark_tree m) (t.Second (t.Called n.the_value x))

-- a path alone (or unsafe), with tokens in a group, or with = and a value
abbrev pub meta_inside : Meta → Tree
meta_inside (metas.Path p) = t.Pair (meta_path_tree p) (t.Second (t.Second t.Nil))
meta_inside (metas.List x) = t.Pair (meta_path_tree x.path) (t.First x.delimited.now)
meta_inside (metas.NameValue x) =
    t.Pair (meta_path_tree x.path) (t.Second (t.First (meta_value_tree x.eq_token x.value.now)))

-- what stands in an attribute: a, a(b), a = b
abbrev pub meta : Meta → Tree
meta x = t.Node k.Meta (meta_inside x)
