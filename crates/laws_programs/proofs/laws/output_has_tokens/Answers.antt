use Rattle.laws_programs.proofs.Outputs as laws
use Rattle.laws_programs.proofs.laws.output_has_tokens.Goals as goal

pub returns : goal.returns
returns c = laws.output_tokens
