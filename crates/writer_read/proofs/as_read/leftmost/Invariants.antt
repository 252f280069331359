use Rattle.std.specs.Prelude.{◌≤◌, max}
use Rattle.std.proofs.Common.{◌≡◌, ◌++◌, map}
use denote.Param.Weighed.{most}
use Rattle.syn_grammar.specs.Tree.{flat}
use Rattle.reader_tree.specs.declared.tree.Tree.TheDeep.{size-Tree}
use Rattle.writer_read.specs.Chains.{behind_lefts_read}
use Rattle.writer_read.proofs.as_read.leftmost.Given as goal

-- what stands behind the forms stands behind the operand; no form is larger than the tree
abbrev pub invariant-loop-left : goal.invariant-loop-left
invariant-loop-left l = record {
  read : flat l.place.tree.now ++ behind_lefts_read (map (λ x. x.now) l.forms.items)
      ≡ flat l.fn.tree ++ behind_lefts_read (map (λ x. x.now) l.fn.forms.items);
  inside : size-Tree l.place.tree.now ≤ size-Tree l.fn.tree;
  outside : most (λ x. size-Tree x.now) l.forms.items
      ≤ max (most (λ x. size-Tree x.now) l.fn.forms.items) (size-Tree l.fn.tree);
}

abbrev pub decreases-loop-left : goal.decreases-loop-left
decreases-loop-left l = size-Tree l.place.tree.now
