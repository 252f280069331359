use Rattle.proc_macro2.proofs.OneForest.{one_forest}
use Rattle.proc_macro2.proofs.forest_laws.one_forest.Goals as goal

pub returns : goal.returns
returns c = one_forest
