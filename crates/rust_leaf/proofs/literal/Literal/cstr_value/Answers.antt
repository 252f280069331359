use Rattle.std.proofs.Common.{subst}
use Rattle.rust_leaf.specs.Value.{IsMalformedCStr}
use Rattle.rust_leaf.proofs.literal.Literal.cstr_value.Goals as goal

pub returns-clause-malformed : goal.returns-clause-malformed
returns-clause-malformed c = λ error e. subst IsMalformedCStr c.as_str.ensures (c.cstr_value.ensures.malformed error e)
