use Rattle.std.proofs.Common.{length}
use Rattle.writer_normal.proofs.fields.+fields_of.Given as goal

abbrev pub decreases-fields_of : goal.decreases-fields_of
decreases-fields_of l = length l.numbers.now
