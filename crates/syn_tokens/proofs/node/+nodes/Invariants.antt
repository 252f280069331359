use Rattle.std.proofs.Common.{◌≡◌, ◌++◌, drop, map}
use Rattle.reader_tree.specs.Forms.{elements, turns}
use Rattle.writer_rules.specs.Front.{Keeps}
use Rattle.syn_grammar.specs.Tree as t
use Rattle.syn_tokens.specs.Nodes.{nodes}
use Rattle.syn_tokens.proofs.node.+nodes.Given as goal

-- those that are given stand in front, and what is left is to stand behind what is put
abbrev pub invariant-put_turns-loop-tree : goal.invariant-put_turns-loop-tree
invariant-put_turns-loop-tree l = record {
  kept : Keeps l.initial.out.items l.out.items;
  put : map (λ x. x.now) l.out.items ++ nodes (turns (drop l.tree-index l.trees))
      ≡ map (λ x. x.now) l.initial.out.items ++ nodes (turns l.trees);
}

abbrev pub invariant-put_elements-loop-element : goal.invariant-put_elements-loop-element
invariant-put_elements-loop-element l = record {
  kept : Keeps l.initial.out.items l.out.items;
  put : map (λ x. x.now) l.out.items ++ nodes (elements 0 (drop l.element-index l.before) t.End)
      ≡ map (λ x. x.now) l.initial.out.items ++ nodes (elements 0 l.before t.End);
}
