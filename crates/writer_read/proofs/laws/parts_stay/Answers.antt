use Rattle.writer_read.proofs.Bare as Bare
use Rattle.writer_read.proofs.laws.parts_stay.Goals as goal

pub returns : goal.returns
returns c = Bare.has_made
