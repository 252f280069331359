use Rattle.rust_leaf.proofs.Parsing.{unsigned_is, signed_is}
use Rattle.rust_leaf.proofs.literal.Literal.is_text.Goals as goal

pub returns-then-is_some : goal.returns-then-is_some
returns-then-is_some c = unsigned_is _ _ _ c.kind_of.ensures c.is_some.ensures c.if-is_some.true

pub returns-else-is_some : goal.returns-else-is_some
returns-else-is_some c = signed_is _ _ _ _ c.kind_of.ensures c.is_some.ensures c.if-is_some.false c.is_negative.ensures
