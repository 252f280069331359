use Rattle.proc_macro2.proofs.StreamLemmas.{added_stream}
use Rattle.proc_macro2.proofs.tree.TokenStream.push_tree.Goals as goal

pub invariant_of-self : goal.invariant_of-self
invariant_of-self c =
    added_stream c.add_tree.result _ _ _ c.self.invariant c.add_tree.ensures.known c.add_tree.ensures.ok
    c.add_tree.ensures.err
