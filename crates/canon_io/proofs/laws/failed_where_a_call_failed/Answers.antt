use Rattle.canon_io.proofs.Runs.{failed_is_said, failed_run_seen}
use Rattle.canon_io.proofs.laws.failed_where_a_call_failed.Goals as goal

pub returns-clause-said : goal.returns-clause-said
returns-clause-said c = failed_is_said

pub returns-clause-seen : goal.returns-clause-seen
returns-clause-seen c = failed_run_seen
