use Rattle.proc_macro2.proofs.SpacingLemmas.{spaced_group}
use Rattle.proc_macro2.proofs.laws.well_spaced_in_group.Goals as goal

pub returns : goal.returns
returns c = spaced_group
