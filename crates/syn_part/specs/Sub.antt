-- The trees that these parts are.
use Rattle.syn_part.specs.Leaves.{literal_tree, mark_tree, word_tree}
use Rattle.syn_part.specs.declared.sub.Lit.{Lit}
use Rattle.syn_part.specs.declared.sub.Lit.TheVariants as lits
use Rattle.syn_part.specs.declared.sub.Marked.{Marked}
use Rattle.syn_part.specs.declared.sub.MarkedBounds.{MarkedBounds}
use Rattle.syn_part.specs.declared.sub.MarkedType.{MarkedType}
use Rattle.syn_part.specs.declared.sub.MarkedValue.{MarkedValue}
use Rattle.syn_part.specs.declared.sub.Worded.{Worded}
use Rattle.syn_grammar.specs.Name as n
use Rattle.syn_grammar.specs.Tree as t
use Rattle.syn_grammar.specs.Tree.{Tree}

-- a part behind a mark
abbrev pub marked_tree : Marked → Tree
marked_tree x = t.Pair (mark_tree x.mark) x.node.now

-- a part behind a keyword
abbrev pub worded_tree : Worded → Tree
worded_tree x = t.Pair (word_tree x.word) x.node.now

-- a value behind a mark: = a, ; a
abbrev pub marked_value_tree : MarkedValue → Tree
marked_value_tree x = t.Pair (mark_tree x.mark) (t.Called n.the_value x.node.now)

-- a type behind a mark: : T, = T, -> T
abbrev pub marked_type_tree : MarkedType → Tree
marked_type_tree x = t.Pair (mark_tree x.mark) (t.Called n.the_type x.node.now)

-- bounds behind a mark: : A + B
abbrev pub marked_bounds_tree : MarkedBounds → Tree
marked_bounds_tree x = t.Pair (mark_tree x.mark) (t.Called n.the_bounds x.node.now)

-- a literal: one token, or the word true or false
abbrev pub lit_tree : Lit → Tree
lit_tree (lits.Token l) = t.First (literal_tree l)
lit_tree (lits.Bool i) = t.Second (word_tree i)
