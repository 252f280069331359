use Rattle.std.proofs.Common.{ap, ◌∙◌}
use Rattle.syn_grammar.specs.Tree.{flat}
use Rattle.syn_placed.proofs.cut.skip.Goals as goal

pub returns : goal.returns
returns c = record {
  front = c.cut.result.0.entries.now;
  is_front = c.cut.result.0.is_spelled ∙ ap flat c.cut.ensures.tree;
  is = c.cut.ensures.whole;
}
