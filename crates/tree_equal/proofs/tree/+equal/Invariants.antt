use Rattle.std.proofs.Common.{◌≡◌, ◌+◌, ◌*◌, ◌≤◌, drop}
use Rattle.std.specs.Prelude.{◌↔◌}
use Rattle.syn_grammar.specs.Tree as t
use Rattle.reader_tree.specs.Forms.{elements, ending, turns}
use Rattle.tree_equal.specs.Rest.{both_count}
use Rattle.tree_equal.proofs.tree.+equal.Given as goal

-- the two are one exactly if what is left is, which is no more
abbrev pub invariant-equal-tails : goal.invariant-equal-tails
invariant-equal-tails l = record {
  same : (l.fn.a ≡ l.fn.b) ↔ (l.left.one.now ≡ l.left.other.now);
  inside : both_count l.left.one.now l.left.other.now ≤ both_count l.fn.a l.fn.b;
}

abbrev pub decreases-equal-tails : goal.decreases-equal-tails
decreases-equal-tails l = both_count l.left.one.now l.left.other.now

-- as far as they are one, what is left decides
abbrev pub invariant-equal_turns-loop-index : goal.invariant-equal_turns-loop-index
invariant-equal_turns-loop-index l = drop l.index l.turns ≡ drop l.index l.others → l.turns ≡ l.others

abbrev pub invariant-equal_elements-loop-index : goal.invariant-equal_elements-loop-index
invariant-equal_elements-loop-index l = drop l.index l.elements ≡ drop l.index l.others → l.elements ≡ l.others

-- what is compared is a part of the two
abbrev pub decreases-equal : goal.decreases-equal
decreases-equal l = 2 * both_count l.a.now l.b.now + 1

abbrev pub decreases-equal_turns : goal.decreases-equal_turns
decreases-equal_turns l = 2 * both_count (turns l.turns.now) (turns l.others.now)

abbrev pub decreases-equal_elements : goal.decreases-equal_elements
decreases-equal_elements l = 2 * both_count (elements 0 l.elements.now t.End) (elements 0 l.others.now t.End)

abbrev pub decreases-equal_last : goal.decreases-equal_last
decreases-equal_last l = 2 * both_count (ending (λ x. x.now) l.last) (ending (λ x. x.now) l.end)
