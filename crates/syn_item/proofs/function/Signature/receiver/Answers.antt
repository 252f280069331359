use Rattle.syn_part.specs.Leaves.{list_tree}
use Rattle.syn_item.proofs.ItemArgumentLaws.{no_receiver}
use Rattle.syn_item.proofs.function.Signature.receiver.Goals as goal

pub returns-in-None : goal.returns-in-None
returns-in-None c = λ kept.
    no_receiver c.args.self.now.inputs.now (list_tree c.in-Some.parameters.inputs) c.in-Some-first_of.first.now
    c.in-Some.parameters.paren_token.delimiter c.in-Some.ensures c.in-Some-first_of.ensures c.in-None.ensures
