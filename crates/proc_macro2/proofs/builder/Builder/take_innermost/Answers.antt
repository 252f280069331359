use Rattle.proc_macro2.proofs.Stacks.{merged_stack}
use Rattle.proc_macro2.proofs.builder.Builder.take_innermost.Goals as goal

pub invariant_of-self-in_err-trees : goal.invariant_of-self-in_err-trees
invariant_of-self-in_err-trees c =
    rw c.in_err-trees.ensures.err (merged_stack _ _ _ c.in-Some.frame c.in-Some.ensures.items c.self.invariant)
