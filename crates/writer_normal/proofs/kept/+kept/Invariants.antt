use Rattle.std.proofs.Common.{◌≡◌, ◌+◌, ◌*◌, ◌++◌, drop, length, map}
use denote.Param.Weighed.{most}
use Rattle.reader_table.specs.Ops.{separator_of}
use Rattle.reader_tree.specs.declared.tree.Tree.TheDeep.{size-Tree, size-Element}
use Rattle.reader_tree.specs.Forms.{elements, ending}
use Rattle.reader_tree.specs.Size.{node_count}
use Rattle.syn_grammar.specs.Kept.{kept}
use Rattle.writer_normal.specs.Frames.{IsHeldWithin, IsWithin}
use Rattle.writer_normal.proofs.Frames.{weight}
use Rattle.writer_normal.specs.Held.{element_held}
use Rattle.writer_normal.proofs.kept.+kept.Given as goal

-- what is left is to stand behind what is put
abbrev pub invariant-put_each-loop-tree : goal.invariant-put_each-loop-tree
invariant-put_each-loop-tree l = record {
  put : l.out.items ++ map kept (drop l.tree-index l.trees) ≡ l.initial.out.items ++ map kept l.trees;
  frames : l.frames.items ≡ l.initial.frames.items;
}

abbrev pub invariant-put_elements-loop-element : goal.invariant-put_elements-loop-element
invariant-put_elements-loop-element l = record {
  put : l.out.items ++ map element_held (drop l.element-index l.before)
      ≡ l.initial.out.items ++ map element_held l.before;
  frames : l.frames.items ≡ l.initial.frames.items;
}

-- within what has been put behind the frames the tree at hand is all of it
abbrev pub invariant-innermost-into : goal.invariant-innermost-into
invariant-innermost-into l = IsWithin l.fn.frames.items l.frames.items l.place.tree.now l.fn.tree

-- what has been made is what is held of a tree that is so within what is left of them
abbrev pub invariant-kept_in-out : goal.invariant-kept_in-out
invariant-kept_in-out l = record {
  outer : l.outer ≡ length l.fn.frames.items;
  held : IsHeldWithin l.fn.frames.items l.frames.items l.made l.fn.tree;
}

abbrev pub decreases-innermost-into : goal.decreases-innermost-into
decreases-innermost-into l = size-Tree l.place.tree.now

abbrev pub decreases-kept_in-out : goal.decreases-kept_in-out
decreases-kept_in-out l = length l.frames.items

-- what is gone into is a part of the tree
abbrev pub decreases-kept_in : goal.decreases-kept_in
decreases-kept_in l = 4 * size-Tree l.tree.now + 3

abbrev pub decreases-innermost : goal.decreases-innermost
decreases-innermost l = 4 * size-Tree l.tree.now + 2

abbrev pub decreases-begun : goal.decreases-begun
decreases-begun l = 4 * size-Tree l.tree.now + 1

abbrev pub decreases-around : goal.decreases-around
decreases-around l = 4 * weight l.frame + 4

abbrev pub decreases-turns : goal.decreases-turns
decreases-turns l = 4 * most (λ x. size-Tree x) l.trees.now + 5

abbrev pub decreases-put_each : goal.decreases-put_each
decreases-put_each l = 4 * most (λ x. size-Tree x) l.trees.now + 4

abbrev pub decreases-list : goal.decreases-list
decreases-list l =
    16 * node_count (elements (separator_of l.list.now.separator) l.list.now.before.now
    (ending (λ b. b.now) l.list.now.last)) + 13

abbrev pub decreases-put_elements : goal.decreases-put_elements
decreases-put_elements l = 4 * most (λ x. size-Element x) l.before.now
