use Rattle.std.proofs.Common.{length}
use Rattle.writer_normal.proofs.numbers.+index_fields.Given as goal

abbrev pub decreases-index_fields : goal.decreases-index_fields
decreases-index_fields l = length l.text.now
