use Rattle.proc_macro2.proofs.Files.{one_file_fault}
use Rattle.proc_macro2.proofs.forest_laws.one_file_fault.Goals as goal

pub returns : goal.returns
returns c = one_file_fault
