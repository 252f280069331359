use Rattle.rust_leaf.proofs.Integers.{integer_literal}
use Rattle.rust_leaf.proofs.laws.written_integers.Goals as goal

pub returns : goal.returns
returns c = integer_literal
