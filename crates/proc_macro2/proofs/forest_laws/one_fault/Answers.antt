use Rattle.proc_macro2.proofs.Halts.{one_fault}
use Rattle.proc_macro2.proofs.forest_laws.one_fault.Goals as goal

pub returns : goal.returns
returns c = one_fault
