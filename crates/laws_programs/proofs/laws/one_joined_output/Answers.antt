use Rattle.laws_programs.proofs.JoinedOutputs as laws
use Rattle.laws_programs.proofs.laws.one_joined_output.Goals as goal

pub returns : goal.returns
returns c = laws.one_joined_output
