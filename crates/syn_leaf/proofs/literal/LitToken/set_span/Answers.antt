use Rattle.syn_leaf.proofs.OfClass.{class_stays}
use Rattle.syn_leaf.proofs.literal.LitToken.set_span.Goals as goal

pub invariant_of-self : goal.invariant_of-self
invariant_of-self g c =
    record { is_of_class = class_stays g.C.LitClass.kind _ _ c.set_span.ensures.text_stays c.args.self.now.is_of_class }
