use Rattle.std.proofs.Common.{length}
use Rattle.reader_tokens.proofs.sign.+spaced.Given as goal

abbrev pub decreases-spaced : goal.decreases-spaced
decreases-spaced l = length l.others.now
