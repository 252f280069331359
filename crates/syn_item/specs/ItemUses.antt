-- The trees that what use declarations name is.
use Rattle.std.specs.Prelude.{None, Option, Some}
use Rattle.syn_part.specs.Name.{name_tree}
use Rattle.syn_part.specs.Leaves.{list_tree, mark_tree, word_tree}
use Rattle.syn_item.specs.declared.uses.UseTop.{UseTop}
use Rattle.syn_item.specs.declared.uses.UseTree.{UseTree}
use Rattle.syn_item.specs.declared.uses.UseTree.TheVariants as uses
use Rattle.syn_part.specs.declared.leaf.Mark.{Mark}
use Rattle.syn_grammar.specs.Kind as k
use Rattle.syn_grammar.specs.Tree as t
use Rattle.syn_grammar.specs.Tree.{Tree}
use denote.Bor.{Bor}

-- all names, or one with what stands behind it: :: and a tree, as and another name, or nothing; braces are no branch
abbrev pub use_branch_tree : UseTree → Tree
use_branch_tree (uses.Path x) = t.Second (t.Pair (name_tree x.ident) (t.First (t.Pair
    (mark_tree x.colon2_token) x.tree.now)))
use_branch_tree (uses.Rename x) = t.Second (t.Pair (name_tree x.ident) (t.Second (t.First (t.Pair (word_tree x.as_token)
    (name_tree x.rename)))))
use_branch_tree (uses.Name x) = t.Second (t.Pair (name_tree x.ident) (t.Second (t.Second t.Nil)))
use_branch_tree (uses.Glob x) = t.First (mark_tree x.star_token)
use_branch_tree (uses.Group x) = t.Nil

-- one that is no group in braces, as a node
abbrev pub use_branch : UseTree → Tree
use_branch x = t.Node k.UseBranch (use_branch_tree x)

-- several in braces, or a branch
abbrev pub use_inside_tree : UseTree → Tree
use_inside_tree (uses.Group x) = t.First (t.Group x.brace_token.delimiter (list_tree x.items))
use_inside_tree (uses.Path x) = t.Second (use_branch (uses.Path x))
use_inside_tree (uses.Rename x) = t.Second (use_branch (uses.Rename x))
use_inside_tree (uses.Name x) = t.Second (use_branch (uses.Name x))
use_inside_tree (uses.Glob x) = t.Second (use_branch (uses.Glob x))

-- one behind a path or a ::, or in braces that one of these stands before
abbrev pub use_tree : UseTree → Tree
use_tree x = t.Node k.UseTree (use_inside_tree x)

-- one that neither a path nor :: stands before
abbrev pub use_rooted : UseTree → Tree
use_rooted x = t.Node k.UseRooted (use_inside_tree x)

-- with the :: of the root in front, or without
abbrev pub use_top_tree : Option Mark → Bor Tree → Tree
use_top_tree (Some m) x = t.First (t.Pair (mark_tree m) x.now)
use_top_tree None x = t.Second x.now

-- all that a use declaration names, or one in braces that no path stands before: with the :: of the root, or without
abbrev pub use_top : UseTop → Tree
use_top x = t.Node k.UseTop (use_top_tree x.leading_colon x.tree)
