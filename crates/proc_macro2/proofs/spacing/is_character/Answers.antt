use Rattle.std.proofs.Common.{◌∙◌}
use Rattle.std.specs.Str.{chars}
use Rattle.proc_macro2.proofs.Starts.{starts_quote}
use Rattle.proc_macro2.proofs.spacing.is_character.Goals as goal

pub returns : goal.returns
returns c = c.begins_with.ensures ∙ starts_quote (chars c.args.text.now)
