use Rattle.laws_binding.proofs.Parted as Parted
use Rattle.laws_binding.proofs.laws.in_parts.Goals as goal

pub returns-clause-apart : goal.returns-clause-apart
returns-clause-apart c = λ p x rest d. Parted.in_parts x p rest d

pub returns-clause-joined : goal.returns-clause-joined
returns-clause-joined c = λ p x rest m s n. Parted.bound x p rest m s n
