use Rattle.proc_macro2.proofs.SpacingLemmas.{spaced_append}
use Rattle.proc_macro2.proofs.laws.well_spaced_joined.Goals as goal

pub returns : goal.returns
returns c = spaced_append
