use Rattle.rust_leaf.proofs.WrittenValues.{c_string_value}
use Rattle.rust_leaf.proofs.value_laws.written_c_string.Goals as goal

pub returns : goal.returns
returns c = c_string_value
