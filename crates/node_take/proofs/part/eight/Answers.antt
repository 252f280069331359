use Rattle.node_take.proofs.part.eight.Goals as goal
use Rattle.node_take.proofs.Seqs.{first_pair, parts_behind}

pub pair-requires : goal.pair-requires
pair-requires c = first_pair 6 c.requires.0 _ c.requires.1 c.requires.2

pub seven-requires : goal.seven-requires
seven-requires c = parts_behind 6 c.requires.0 _ _ _ c.requires.1 c.requires.2 c.pair.ensures
