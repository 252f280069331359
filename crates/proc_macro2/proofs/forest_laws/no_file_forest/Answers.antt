use Rattle.proc_macro2.proofs.Files.{no_file_forest}
use Rattle.proc_macro2.proofs.forest_laws.no_file_forest.Goals as goal

pub returns : goal.returns
returns c = no_file_forest
