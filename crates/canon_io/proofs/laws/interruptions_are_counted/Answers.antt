use Rattle.canon_io.proofs.Runs.{after_all-fresh}
use Rattle.canon_io.proofs.laws.interruptions_are_counted.Goals as goal

pub returns-clause-fewer : goal.returns-clause-fewer
returns-clause-fewer c = after_all-fresh
