use Rattle.std.specs.Str.{chars}
use Rattle.rust_leaf.proofs.Identifiers.{identifier_text}
use Rattle.rust_leaf.proofs.laws.accepted_is_identifier.Goals as goal

pub returns : goal.returns
returns c = identifier_text (chars c.args.text.now)
