use Rattle.proc_macro2.proofs.GroupLemmas.{matched_trees}
use Rattle.proc_macro2.proofs.laws.trees_are_matched.Goals as goal

pub returns : goal.returns
returns c = matched_trees
