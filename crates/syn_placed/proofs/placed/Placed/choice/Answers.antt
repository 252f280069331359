use Rattle.std.proofs.Common.{ap, sym, ◌∙◌}
use Rattle.syn_grammar.specs.Tree.{flat}
use Rattle.syn_placed.proofs.Shapes.{choice_flat}
use Rattle.syn_placed.proofs.placed.Placed.choice.Goals as goal

pub new-requires : goal.new-requires
new-requires c =
    c.args.self.now.is_spelled ∙ choice_flat c.args.self.now.tree.now ∙ ap flat (sym c.choice.ensures)
