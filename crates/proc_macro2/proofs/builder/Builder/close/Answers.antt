use Rattle.proc_macro2.proofs.StreamLemmas.{group_stream}
use Rattle.proc_macro2.proofs.builder.Builder.close.Goals as goal

pub put-requires : goal.put-requires
put-requires c = group_stream _ _ _ c.known.ensures
