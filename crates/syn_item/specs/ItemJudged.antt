-- The trees that what was judged is.
use Rattle.syn_grammar.specs.Tree as t
use Rattle.syn_grammar.specs.Tree.{Tree}
use Rattle.syn_item.specs.declared.judged.Judged.{Judged}
use Rattle.syn_item.specs.declared.judged.Judged.TheVariants as verdicts

-- what was judged: it is kept as it was read, or its tokens are, which are the leaves of the tree
abbrev pub judged_tree : Judged → Tree
judged_tree (verdicts.Kept x) = t.First x.now
judged_tree (verdicts.Raw x) = t.Verbatim x.now
