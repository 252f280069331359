use Rattle.proc_macro2.proofs.Stacks.{put_stack}
use Rattle.proc_macro2.proofs.builder.Builder.put.Goals as goal

pub invariant_of-self-2 : goal.invariant_of-self-2
invariant_of-self-2 c = put_stack _ _ _ _ c.in_ok-push.ensures.items c.self.invariant c.requires
