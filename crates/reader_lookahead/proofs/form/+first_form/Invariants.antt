use Rattle.std.proofs.Common.{length}
use Rattle.reader_lookahead.proofs.form.+first_form.Given as goal

abbrev pub decreases-first_form : goal.decreases-first_form
decreases-first_form l = length l.cases.now
