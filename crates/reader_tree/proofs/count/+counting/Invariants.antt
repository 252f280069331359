use Rattle.std.proofs.Common.{◌≡◌, ◌+◌, drop, length}
use Rattle.reader_table.specs.Ops.{separator_of}
use Rattle.reader_tree.specs.Forms.{elements, turns}
use Rattle.syn_grammar.specs.Tree as t
use Rattle.syn_grammar.specs.Tree.{flat}
use Rattle.reader_tree.proofs.count.+counting.Given as goal

-- what is counted, and what is left to count, is all
abbrev pub invariant-past_turns-loop-tree : goal.invariant-past_turns-loop-tree
invariant-past_turns-loop-tree l =
    l.index + length (flat (turns (drop l.tree-index l.trees)))
    ≡ l.initial.index + length (flat (turns l.trees))

abbrev pub invariant-past_elements-loop-element : goal.invariant-past_elements-loop-element
invariant-past_elements-loop-element l =
    l.index + length (flat (elements (separator_of l.fn.mark) (drop l.element-index l.before) t.End))
    ≡ l.initial.index + length (flat (elements (separator_of l.fn.mark) l.before t.End))
