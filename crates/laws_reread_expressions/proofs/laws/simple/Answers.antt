use Rattle.laws_reread_expressions.proofs.Simples as Simples
use Rattle.laws_reread_expressions.proofs.laws.simple.Goals as goal

pub returns : goal.returns
returns c = Simples.simple
