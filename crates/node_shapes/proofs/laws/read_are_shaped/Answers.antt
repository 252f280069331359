use Rattle.node_shapes.proofs.Derived.{shaped, formed, read}
use Rattle.node_shapes.proofs.laws.read_are_shaped.Goals as goal

pub returns-clause-derived : goal.returns-clause-derived
returns-clause-derived c = shaped

pub returns-clause-read : goal.returns-clause-read
returns-clause-read c = read

pub returns-clause-operand : goal.returns-clause-operand
returns-clause-operand c = formed
