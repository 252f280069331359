use Rattle.laws_binding.proofs.OnePass as OnePass
use Rattle.laws_binding.proofs.laws.one_pass.Goals as goal

pub returns : goal.returns
returns c = λ p ts x. OnePass.written x p ts
