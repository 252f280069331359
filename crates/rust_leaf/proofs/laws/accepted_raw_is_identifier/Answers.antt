use Rattle.std.specs.Str.{chars}
use Rattle.rust_leaf.proofs.Identifiers.{raw_identifier_text}
use Rattle.rust_leaf.proofs.laws.accepted_raw_is_identifier.Goals as goal

pub returns : goal.returns
returns c = raw_identifier_text (chars c.args.text.now)
