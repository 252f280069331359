use Rattle.syn_placed.proofs.Places.{apart}
use Rattle.syn_placed.proofs.laws.parts_apart.Goals as goal

pub returns : goal.returns
returns c = λ ts gap x y whole s r. apart ts gap x y whole s r
