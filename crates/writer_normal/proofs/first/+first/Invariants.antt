use Rattle.std.proofs.Common.{◌+◌, ◌*◌}
use Rattle.reader_table.specs.Ops.{separator_of}
use Rattle.reader_tree.specs.declared.tree.Tree.TheDeep.{size-Tree}
use Rattle.reader_tree.specs.Forms.{elements, ending, turns}
use Rattle.reader_tree.specs.Size.{node_count}
use Rattle.syn_grammar.specs.Tree as t
use Rattle.writer_normal.proofs.first.+first.Given as goal

abbrev pub decreases-first : goal.decreases-first
decreases-first l = 2 * size-Tree l.tree.now

abbrev pub decreases-followed : goal.decreases-followed
decreases-followed l = 2 * size-Tree l.tree.now + 1

abbrev pub decreases-followed_turns : goal.decreases-followed_turns
decreases-followed_turns l = 8 * node_count (turns l.trees.now) + 3

abbrev pub decreases-followed_elements : goal.decreases-followed_elements
decreases-followed_elements l = 8 * node_count (elements (separator_of l.mark) l.before.now t.End) + 3

abbrev pub decreases-first_list : goal.decreases-first_list
decreases-first_list l =
    8 * node_count (elements (separator_of l.list.now.separator) l.list.now.before.now
    (ending (λ b. b.now) l.list.now.last)) + 5
