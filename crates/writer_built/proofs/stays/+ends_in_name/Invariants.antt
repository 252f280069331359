use Rattle.std.proofs.Common.{length}
use Rattle.writer_built.proofs.stays.+ends_in_name.Given as goal

abbrev pub decreases-ends_in_name : goal.decreases-ends_in_name
decreases-ends_in_name l = length l.pieces.now
