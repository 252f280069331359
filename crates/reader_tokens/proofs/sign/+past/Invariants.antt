use Rattle.std.proofs.Common.{length}
use Rattle.reader_tokens.proofs.sign.+past.Given as goal

abbrev pub decreases-past : goal.decreases-past
decreases-past l = length l.others.now
