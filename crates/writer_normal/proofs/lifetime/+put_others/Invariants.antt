use Rattle.std.proofs.Common.{length}
use Rattle.writer_normal.proofs.lifetime.+put_others.Given as goal

abbrev pub decreases-put_others : goal.decreases-put_others
decreases-put_others l = length l.before.now
