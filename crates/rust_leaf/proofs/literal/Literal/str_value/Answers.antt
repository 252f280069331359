use Rattle.std.proofs.Common.{subst}
use Rattle.rust_leaf.specs.Value.{IsMalformedStr}
use Rattle.rust_leaf.proofs.literal.Literal.str_value.Goals as goal

pub returns-clause-malformed : goal.returns-clause-malformed
returns-clause-malformed c = λ error e. subst IsMalformedStr c.as_str.ensures (c.str_value.ensures.malformed error e)
