use Rattle.node_take.proofs.part.four.Goals as goal
use Rattle.node_take.proofs.Seqs.{first_pair, parts_behind}

pub pair-requires : goal.pair-requires
pair-requires c = first_pair 2 c.requires.0 _ c.requires.1 c.requires.2

pub three-requires : goal.three-requires
three-requires c = parts_behind 2 c.requires.0 _ _ _ c.requires.1 c.requires.2 c.pair.ensures
