use Rattle.proc_macro2.proofs.GroupLemmas.{matched_text}
use Rattle.proc_macro2.proofs.laws.group_text.Goals as goal

pub returns : goal.returns
returns c = matched_text
