use Rattle.writer_read.proofs.OfKinds as OfKinds
use Rattle.writer_read.proofs.laws.quiet_kinds.Goals as goal

pub returns : goal.returns
returns c = OfKinds.quiet
