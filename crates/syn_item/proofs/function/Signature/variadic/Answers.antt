use Rattle.syn_part.specs.Leaves.{list_tree}
use Rattle.syn_item.proofs.ItemArgumentLaws.{no_variadic}
use Rattle.syn_item.proofs.function.Signature.variadic.Goals as goal

pub returns-in-None : goal.returns-in-None
returns-in-None c = λ kept.
    no_variadic c.args.self.now.inputs.now (list_tree c.in-Some.parameters.inputs) c.in-Some-last_of.last.now
    c.in-Some.parameters.paren_token.delimiter c.in-Some.ensures c.in-Some-last_of.ensures c.in-None.ensures
