use Rattle.rust_leaf.proofs.Parsing.{negative_is, no_literal}
use Rattle.rust_leaf.proofs.parse.is_negative.Goals as goal

pub returns-in-Some-kind_of : goal.returns-in-Some-kind_of
returns-in-Some-kind_of c =
    negative_is _ _ _ _ _ c.in-Some.ensures.some c.kind_of.ensures c.in-Some-kind_of.is c.is_number_kind.ensures

pub returns-in-None : goal.returns-in-None
returns-in-None c = no_literal _ _ _ c.in-Some.ensures.some c.kind_of.ensures c.in-None.is
