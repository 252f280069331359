use Rattle.proc_macro2.proofs.GroupLemmas.{joined_text}
use Rattle.proc_macro2.proofs.laws.joined_text.Goals as goal

pub returns : goal.returns
returns c = joined_text
