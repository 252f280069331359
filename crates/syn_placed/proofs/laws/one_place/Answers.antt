use Rattle.syn_placed.proofs.Places.{one_place}
use Rattle.syn_placed.proofs.laws.one_place.Goals as goal

pub returns : goal.returns
returns c = λ ts a b whole e s r. one_place ts a b whole e s r
