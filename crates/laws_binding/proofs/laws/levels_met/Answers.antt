use Rattle.laws_binding.proofs.Levels as Levels
use Rattle.laws_binding.proofs.laws.levels_met.Goals as goal

pub returns : goal.returns
returns c = λ p ts x. Levels.meets x p ts
