use Rattle.laws_programs.proofs.JoinedOutputs as laws
use Rattle.laws_programs.proofs.laws.joined_texts.Goals as goal

pub returns : goal.returns
returns c = laws.joined_texts
