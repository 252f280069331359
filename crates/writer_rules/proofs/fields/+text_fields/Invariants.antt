use Rattle.std.proofs.Common.{length}
use Rattle.writer_rules.proofs.fields.+text_fields.Given as goal

abbrev pub decreases-text_fields : goal.decreases-text_fields
decreases-text_fields l = length l.text.now
