use Rattle.std.proofs.Common.{◌≡◌, ◌+◌, ◌*◌, ◌++◌, drop, map}
use denote.Param.Weighed.{most}
use Rattle.reader_table.specs.Kinds.{position_of}
use Rattle.reader_table.specs.Ops.{separator_of}
use Rattle.reader_tree.specs.declared.tree.Tree.TheDeep.{size-Tree, size-Element}
use Rattle.reader_tree.specs.Forms.{elements, ending}
use Rattle.reader_tree.specs.Size.{node_count}
use Rattle.syn_grammar.specs.Normal.{normal_in}
use Rattle.writer_normal.specs.Parted.{element_in}
use Rattle.writer_normal.proofs.normal.+normal.Given as goal

-- what is left is to stand behind what is put
abbrev pub invariant-put_each-loop-tree : goal.invariant-put_each-loop-tree
invariant-put_each-loop-tree l =
    l.out.items ++ map (normal_in (position_of l.position)) (drop l.tree-index l.trees)
    ≡ l.initial.out.items ++ map (normal_in (position_of l.position)) l.trees

abbrev pub invariant-put_elements-loop-element : goal.invariant-put_elements-loop-element
invariant-put_elements-loop-element l =
    l.out.items ++ map (element_in (position_of l.position)) (drop l.element-index l.before)
    ≡ l.initial.out.items ++ map (element_in (position_of l.position)) l.before

abbrev pub decreases-normal_in : goal.decreases-normal_in
decreases-normal_in l = 2 * size-Tree l.tree.now

abbrev pub decreases-formed : goal.decreases-formed
decreases-formed l = 2 * size-Tree l.tree.now + 1

abbrev pub decreases-whole : goal.decreases-whole
decreases-whole l = 2 * size-Tree l.inner.now + 2

abbrev pub decreases-node : goal.decreases-node
decreases-node l = 2 * size-Tree l.inner.now + 1

abbrev pub decreases-alone : goal.decreases-alone
decreases-alone l = 2 * size-Tree l.own.now + 1

abbrev pub decreases-front : goal.decreases-front
decreases-front l = 8 * (node_count l.two.now.front + node_count l.two.now.back) + 10

abbrev pub decreases-back : goal.decreases-back
decreases-back l = 8 * (node_count l.two.now.front + node_count l.two.now.back) + 10

abbrev pub decreases-infix : goal.decreases-infix
decreases-infix l =
    8 * (node_count l.three.now.left + node_count l.three.now.own + node_count l.three.now.right) + 10

abbrev pub decreases-turns : goal.decreases-turns
decreases-turns l = 2 * most (λ x. size-Tree x) l.trees.now + 2

abbrev pub decreases-put_each : goal.decreases-put_each
decreases-put_each l = 2 * most (λ x. size-Tree x) l.trees.now + 1

abbrev pub decreases-list : goal.decreases-list
decreases-list l =
    8 * node_count (elements (separator_of l.list.now.separator) l.list.now.before.now
    (ending (λ b. b.now) l.list.now.last)) + 7

abbrev pub decreases-put_elements : goal.decreases-put_elements
decreases-put_elements l = 2 * most (λ x. size-Element x) l.before.now
