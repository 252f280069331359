use Rattle.node_take.proofs.part.six.Goals as goal
use Rattle.node_take.proofs.Seqs.{first_pair, parts_behind}

pub pair-requires : goal.pair-requires
pair-requires c = first_pair 4 c.requires.0 _ c.requires.1 c.requires.2

pub five-requires : goal.five-requires
five-requires c = parts_behind 4 c.requires.0 _ _ _ c.requires.1 c.requires.2 c.pair.ensures
