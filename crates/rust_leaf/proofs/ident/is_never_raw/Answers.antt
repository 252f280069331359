use Rattle.std.proofs.Common.{rules, ◌∙◌}
use Rattle.rust_leaf.proofs.Identifiers.{reserved_texts}
use Rattle.rust_leaf.proofs.ident.is_never_raw.Goals as goal

pub returns : goal.returns
returns c = (search rules) ∙ reserved_texts c.args.text.now c.utf8.text
