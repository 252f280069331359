use Rattle.rust_leaf.proofs.Decided.{literal_had}
use Rattle.rust_leaf.proofs.laws.printed_as_literal.Goals as goal

pub returns : goal.returns
returns c = literal_had _ c.args.literal.now.is_literal
