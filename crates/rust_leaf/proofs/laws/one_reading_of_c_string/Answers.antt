use Rattle.rust_leaf.proofs.CStrings.{one_reading}
use Rattle.rust_leaf.proofs.laws.one_reading_of_c_string.Goals as goal

pub returns : goal.returns
returns c = λ ps qs a b. one_reading ps qs c.args.bytes.now a b
