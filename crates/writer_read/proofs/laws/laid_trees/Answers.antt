use Rattle.writer_read.proofs.LaidTrees as LaidTrees
use Rattle.writer_read.proofs.laws.laid_trees.Goals as goal

pub returns : goal.returns
returns c = LaidTrees.laid_same
