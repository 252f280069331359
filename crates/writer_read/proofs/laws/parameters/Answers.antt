use Rattle.writer_read.proofs.OfKinds as OfKinds
use Rattle.writer_read.proofs.laws.parameters.Goals as goal

pub returns : goal.returns
returns c = record { unnamed = OfKinds.unnamed; named = OfKinds.parameter }
