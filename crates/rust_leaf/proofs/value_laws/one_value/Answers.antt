use Rattle.rust_leaf.proofs.Values.{one_text, one_bytes, one_c_bytes}
use Rattle.rust_leaf.proofs.SingleValues.{one_char, one_byte}
use Rattle.rust_leaf.proofs.value_laws.one_value.Goals as goal

pub returns-clause-text : goal.returns-clause-text
returns-clause-text c = one_text

pub returns-clause-bytes : goal.returns-clause-bytes
returns-clause-bytes c = one_bytes

pub returns-clause-c_bytes : goal.returns-clause-c_bytes
returns-clause-c_bytes c = one_c_bytes

pub returns-clause-character : goal.returns-clause-character
returns-clause-character c = one_char

pub returns-clause-byte : goal.returns-clause-byte
returns-clause-byte c = one_byte
