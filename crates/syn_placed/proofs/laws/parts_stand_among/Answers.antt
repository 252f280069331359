use Rattle.syn_placed.proofs.Places.{among}
use Rattle.syn_placed.proofs.laws.parts_stand_among.Goals as goal

pub returns : goal.returns
returns c = λ ts its whole s. among ts its whole s
