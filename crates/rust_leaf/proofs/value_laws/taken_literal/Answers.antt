use Rattle.rust_leaf.proofs.Taken.{taken_text, taken_bytes, taken_c_text}
use Rattle.rust_leaf.proofs.value_laws.taken_literal.Goals as goal

pub returns-clause-text : goal.returns-clause-text
returns-clause-text c = taken_text

pub returns-clause-bytes : goal.returns-clause-bytes
returns-clause-bytes c = taken_bytes

pub returns-clause-c_text : goal.returns-clause-c_text
returns-clause-c_text c = taken_c_text
