use Rattle.node_take.proofs.choice.+alternative.Given as goal

abbrev pub decreases-alternative : goal.decreases-alternative
decreases-alternative l = l.count
