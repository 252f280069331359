use Rattle.node_take.proofs.part.three.Goals as goal
use Rattle.node_take.proofs.Seqs.{first_pair, second_pair}

pub pair-requires : goal.pair-requires
pair-requires c = first_pair 1 c.requires.0 _ c.requires.1 c.requires.2

pub pair-requires-2 : goal.pair-requires-2
pair-requires-2 c = second_pair 0 c.requires.0 _ _ _ c.requires.1 c.requires.2 c.pair.ensures
