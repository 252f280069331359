use Rattle.writer_read.proofs.Read as Read
use Rattle.writer_read.proofs.laws.formed_read.Goals as goal

pub returns : goal.returns
returns c = Read.formed_read
