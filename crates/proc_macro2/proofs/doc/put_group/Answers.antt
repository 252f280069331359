use Rattle.proc_macro2.proofs.StreamLemmas.{group_stream}
use Rattle.proc_macro2.proofs.doc.put_group.Goals as goal

pub put-requires : goal.put-requires
put-requires c = group_stream _ _ _ c.known.ensures
