use Rattle.std.proofs.Common.{◌∙◌, sym}
use Rattle.proc_macro2.proofs.Standing.{spaced_stand, stand_spaced}
use Rattle.proc_macro2.proofs.tree.TokenStream.is_well_spaced.Goals as goal

pub returns : goal.returns
returns c = (λ h. spaced_stand _ (sym c.stream_stands.ensures ∙ h), λ h. c.stream_stands.ensures ∙ stand_spaced _ h)
