use Rattle.proc_macro2.proofs.Files.{file_forest_or_fault}
use Rattle.proc_macro2.proofs.forest_laws.file_forest_or_fault.Goals as goal

pub returns : goal.returns
returns c = file_forest_or_fault
