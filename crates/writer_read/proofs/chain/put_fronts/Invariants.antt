use Rattle.std.specs.Prelude.{◌≤◌, max}
use Rattle.std.proofs.Common.{◌≡◌, ◌++◌, map}
use denote.Param.Weighed.{most}
use Rattle.writer_print.specs.Pieces.{piece_token}
use Rattle.reader_tree.specs.declared.tree.Tree.TheDeep.{size-Tree}
use Rattle.writer_rules.specs.Front.{Keeps}
use Rattle.writer_read.specs.Chains.{behind_lefts, passed_laid}
use Rattle.writer_read.proofs.chain.put_fronts.Given as goal

-- the old ones stand in front, and what is left is to stand behind what is put; no form is larger than the tree
abbrev pub invariant-loop : goal.invariant-loop
invariant-loop l = record {
  kept : Keeps l.fn.out.items l.out.items;
  put : map piece_token l.out.items ++ (passed_laid l.fn.lefts l.place.tree.now ++ behind_lefts
      (map (λ x. x.now) l.forms.items))
      ≡ map piece_token l.fn.out.items ++ (passed_laid l.fn.lefts l.fn.tree ++ behind_lefts
      (map (λ x. x.now) l.fn.forms.items));
  inside : size-Tree l.place.tree.now ≤ size-Tree l.fn.tree;
  outside : most (λ x. size-Tree x.now) l.forms.items
      ≤ max (most (λ x. size-Tree x.now) l.fn.forms.items) (size-Tree l.fn.tree);
}

abbrev pub decreases-loop : goal.decreases-loop
decreases-loop l = size-Tree l.place.tree.now
