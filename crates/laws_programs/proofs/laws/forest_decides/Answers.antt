use Rattle.laws_programs.proofs.Programs as laws
use Rattle.laws_programs.proofs.laws.forest_decides.Goals as goal

pub returns-clause-program : goal.returns-clause-program
returns-clause-program c = laws.program_anywhere

pub returns-clause-fault : goal.returns-clause-fault
returns-clause-fault c = laws.fault_anywhere
