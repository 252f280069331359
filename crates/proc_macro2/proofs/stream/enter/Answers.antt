use Rattle.rust_leaf.proofs.Texts.{ident_characters}
use Rattle.proc_macro2.proofs.StreamLemmas.{group_stream, ident_stream}
use Rattle.proc_macro2.proofs.stream.enter.Goals as goal

pub returns-in_ok-push-in-Group-clause-known : goal.returns-in_ok-push-in-Group-clause-known
returns-in_ok-push-in-Group-clause-known c = rw c.in-Group.is (group_stream _ _ _ c.known.ensures)

pub returns-in_ok-push-in-Ident-clause-known : goal.returns-in_ok-push-in-Ident-clause-known
returns-in_ok-push-in-Ident-clause-known c =
    rw c.in-Ident.is (ident_stream _ _ c.in-Ident.ident.is_printed (ident_characters c.in-Ident.ident))
