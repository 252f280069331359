use Rattle.std.proofs.Common.{refl}
use Rattle.syn_error.proofs.Fronts.{keeps_same}
use Rattle.syn_kinds.proofs.delimiters.Delimiters.surround.Goals as goal

pub returns-in_err-f-clause-keeps : goal.returns-in_err-f-clause-keeps
returns-in_err-f-clause-keeps g c = keeps_same _ _ refl
