use Rattle.proc_macro2.proofs.Files.{one_file_forest}
use Rattle.proc_macro2.proofs.forest_laws.one_file_forest.Goals as goal

pub returns : goal.returns
returns c = one_file_forest
