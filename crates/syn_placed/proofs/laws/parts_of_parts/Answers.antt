use Rattle.syn_placed.proofs.Places.{within}
use Rattle.syn_placed.proofs.laws.parts_of_parts.Goals as goal

pub returns : goal.returns
returns c = λ ts us its mid whole s r. within ts us its mid whole s r
