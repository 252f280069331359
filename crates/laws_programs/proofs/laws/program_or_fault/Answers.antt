use Rattle.laws_programs.proofs.Programs as laws
use Rattle.laws_programs.proofs.laws.program_or_fault.Goals as goal

pub returns : goal.returns
returns c = laws.program_or_fault
