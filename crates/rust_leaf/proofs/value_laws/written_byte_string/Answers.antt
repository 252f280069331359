use Rattle.rust_leaf.proofs.WrittenValues.{byte_string_value}
use Rattle.rust_leaf.proofs.value_laws.written_byte_string.Goals as goal

pub returns : goal.returns
returns c = byte_string_value
