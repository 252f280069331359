use Rattle.std.proofs.Common.{◌∙◌}
use Rattle.std.proofs.lemmas.Str.Pattern.{starts_text}
use Rattle.proc_macro2.proofs.Starts.{starts_ascii}
use Rattle.proc_macro2.proofs.spacing.begins_with.Goals as goal

pub returns : goal.returns
returns c = starts_text _ _ _ c.starts_with.ensures.cases ∙ starts_ascii _ _ c.utf8.text c.requires
