use Rattle.writer_read.proofs.Row as Row
use Rattle.writer_read.proofs.laws.params.Goals as goal

pub returns : goal.returns
returns c = Row.params_said
