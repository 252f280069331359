use Rattle.proc_macro2.proofs.OneList.{one_list}
use Rattle.proc_macro2.proofs.laws.one_list_of_trees.Goals as goal

pub returns : goal.returns
returns c = one_list
