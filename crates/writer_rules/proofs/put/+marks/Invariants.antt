use Rattle.std.proofs.Common.{length}
use Rattle.writer_rules.proofs.put.+marks.Given as goal

abbrev pub decreases-marks : goal.decreases-marks
decreases-marks l = length l.others.now
