-- The trees that an iterator still gives.
use Rattle.std.specs.Prelude.{List}
use Rattle.proc_macro2.specs.declared.into_iter.IntoIter.{IntoIter}
use Rattle.proc_macro2.specs.declared.tree.TokenTree.{TokenTree}

-- in their order
abbrev pub trees_left : IntoIter → List TokenTree
trees_left it = it.trees.items
