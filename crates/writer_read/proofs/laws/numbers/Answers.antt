use Rattle.writer_read.proofs.OfKinds as OfKinds
use Rattle.writer_read.proofs.laws.numbers.Goals as goal

pub returns : goal.returns
returns c = record { index = OfKinds.index; member = OfKinds.member_index; name = OfKinds.member_name }
