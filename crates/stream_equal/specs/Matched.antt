-- Trees whose groups are closed by their own marks.
use Rattle.proc_macro2.specs.Groups.{IsMatched}
use Rattle.proc_macro2.specs.declared.tree.TokenTree.{TokenTree}
use Rattle.proc_macro2.specs.declared.tree.TokenTree.TheVariants as tree

abbrev pub IsMatchedTree : TokenTree → Type 0
IsMatchedTree (tree.Group g) = IsMatched g.stream
IsMatchedTree (tree.Ident i) = Unit {0}
IsMatchedTree (tree.Punct p) = Unit {0}
IsMatchedTree (tree.Literal l) = Unit {0}
