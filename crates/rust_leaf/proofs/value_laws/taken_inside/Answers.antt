use Rattle.rust_leaf.proofs.Lexed.{value_inside}
use Rattle.rust_leaf.proofs.value_laws.taken_inside.Goals as goal

pub returns : goal.returns
returns c = value_inside
