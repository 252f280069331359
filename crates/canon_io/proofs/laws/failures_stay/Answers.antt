use Rattle.canon_io.proofs.Runs.{after_all-Failed}
use Rattle.canon_io.proofs.laws.failures_stay.Goals as goal

pub returns : goal.returns
returns c = after_all-Failed
