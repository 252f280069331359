use Rattle.proc_macro2.proofs.StreamLemmas.{added_stream, on_ok}
use Rattle.proc_macro2.proofs.tree.TokenStream.extend_trees.Goals as goal

pub invariant_of-self : goal.invariant_of-self
invariant_of-self c =
    added_stream c.add_trees.result _ _ _ c.self.invariant (on_ok c.add_trees.result c.in_ok-added.ensures.known)
    c.add_trees.ensures.ok c.add_trees.ensures.err
