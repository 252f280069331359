use Rattle.proc_macro2.proofs.Total.{forest_or_fault}
use Rattle.proc_macro2.proofs.forest_laws.forest_or_fault.Goals as goal

pub returns : goal.returns
returns c = forest_or_fault
