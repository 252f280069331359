use Rattle.std.proofs.Common.{length}
use Rattle.reader_tokens.proofs.leaf.+among.Given as goal

abbrev pub decreases-among : goal.decreases-among
decreases-among l = length l.keywords.now
