use Rattle.std.specs.Str.{chars}
use Rattle.std.proofs.lemmas.Str.{scalars-chars}
use Rattle.rust_leaf.proofs.WrittenValues.{string_value}
use Rattle.rust_leaf.proofs.value_laws.written_string.Goals as goal

pub returns : goal.returns
returns c = string_value (chars c.args.text.now) (scalars-chars c.args.text.now c.utf8.text)
