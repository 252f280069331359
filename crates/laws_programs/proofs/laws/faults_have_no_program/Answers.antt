use Rattle.laws_programs.proofs.Programs as laws
use Rattle.laws_programs.proofs.laws.faults_have_no_program.Goals as goal

pub returns-clause-lexical : goal.returns-clause-lexical
returns-clause-lexical c = laws.lexical_fault

pub returns-clause-syntax : goal.returns-clause-syntax
returns-clause-syntax c = laws.syntax_fault
