use Rattle.node_take.proofs.part.seven.Goals as goal
use Rattle.node_take.proofs.Seqs.{first_pair, parts_behind}

pub pair-requires : goal.pair-requires
pair-requires c = first_pair 5 c.requires.0 _ c.requires.1 c.requires.2

pub six-requires : goal.six-requires
six-requires c = parts_behind 5 c.requires.0 _ _ _ c.requires.1 c.requires.2 c.pair.ensures
