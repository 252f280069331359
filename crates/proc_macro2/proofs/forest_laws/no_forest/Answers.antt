use Rattle.proc_macro2.proofs.Halts.{no_forest}
use Rattle.proc_macro2.proofs.forest_laws.no_forest.Goals as goal

pub returns : goal.returns
returns c = no_forest
