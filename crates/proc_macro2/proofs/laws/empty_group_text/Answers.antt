use Rattle.proc_macro2.proofs.Texts.{empty_text}
use Rattle.proc_macro2.proofs.laws.empty_group_text.Goals as goal

pub returns : goal.returns
returns c = empty_text
