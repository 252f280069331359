use Rattle.rust_leaf.proofs.Texts.{ident_characters}
use Rattle.proc_macro2.proofs.StreamLemmas.{ident_stream}
use Rattle.proc_macro2.proofs.put.put_ident.Goals as goal

pub put-requires : goal.put-requires
put-requires c = ident_stream _ _ c.in_ok-ident.ident.is_printed (ident_characters c.in_ok-ident.ident)
