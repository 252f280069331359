use Rattle.laws_edges.proofs.Parts as Parts
use Rattle.laws_edges.proofs.laws.own_parts.Goals as goal

pub returns-clause-stand : goal.returns-clause-stand
returns-clause-stand c = λ p x rest d. Parts.parts_stand p x rest d

pub returns-clause-lesser : goal.returns-clause-lesser
returns-clause-lesser c = λ p l y rest d e. Parts.no_lesser p l y rest d e
