use Rattle.std.proofs.Common.{subst}
use Rattle.rust_leaf.specs.Value.{IsMalformedByteStr}
use Rattle.rust_leaf.proofs.literal.Literal.byte_str_value.Goals as goal

pub returns-clause-malformed : goal.returns-clause-malformed
returns-clause-malformed c =
    λ error e. subst IsMalformedByteStr c.as_str.ensures (c.byte_str_value.ensures.malformed error e)
