use Rattle.std.proofs.Common.{length}
use Rattle.writer_normal.proofs.apart.+put_parted.Given as goal

abbrev pub decreases-put_parted : goal.decreases-put_parted
decreases-put_parted l = length l.before.now
