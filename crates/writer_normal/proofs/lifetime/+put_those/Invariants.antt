use Rattle.std.proofs.Common.{length}
use Rattle.writer_normal.proofs.lifetime.+put_those.Given as goal

abbrev pub decreases-put_those : goal.decreases-put_those
decreases-put_those l = length l.before.now
