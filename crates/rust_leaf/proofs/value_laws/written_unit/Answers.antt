use Rattle.std.proofs.Common.{[], refl}
use Rattle.rust_escape.specs.Unit.{Strict}
use Rattle.rust_leaf.specs.Escaped.{escaped, escaped_byte}
use Rattle.rust_leaf.proofs.Written.{character_unit, byte_character_unit}
use Rattle.rust_leaf.proofs.value_laws.written_unit.Goals as goal

pub returns-clause-character : goal.returns-clause-character
returns-clause-character c = λ ch s. (escaped 39 ch [], refl, character_unit Strict ch [] s)

pub returns-clause-byte : goal.returns-clause-byte
returns-clause-byte c = λ b l. (escaped_byte 39 b [], refl, byte_character_unit Strict b [] l)
