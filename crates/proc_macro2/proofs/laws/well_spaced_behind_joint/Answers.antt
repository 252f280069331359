use Rattle.proc_macro2.proofs.SpacingLemmas.{spaced_behind}
use Rattle.proc_macro2.proofs.laws.well_spaced_behind_joint.Goals as goal

pub returns : goal.returns
returns c = spaced_behind
