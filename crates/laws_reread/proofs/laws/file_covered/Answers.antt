use Rattle.laws_reread.proofs.Told as Told
use Rattle.laws_reread.proofs.laws.file_covered.Goals as goal

pub returns : goal.returns
returns c = Told.file_covered
