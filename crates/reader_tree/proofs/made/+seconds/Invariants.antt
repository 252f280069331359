use Rattle.reader_tree.proofs.made.+seconds.Given as goal

abbrev pub decreases-seconds : goal.decreases-seconds
decreases-seconds l = l.count
