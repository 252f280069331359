use Rattle.proc_macro2.proofs.Puts.{some_bytes}
use Rattle.proc_macro2.proofs.put.put_mark.Goals as goal

pub char_at-c-requires-clause-more : goal.char_at-c-requires-clause-more
char_at-c-requires-clause-more c = some_bytes c.args.mark.now _ _ c.requires.1
