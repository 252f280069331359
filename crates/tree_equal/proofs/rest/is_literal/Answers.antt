use Rattle.std.proofs.Common.{refl}
use Rattle.tree_equal.proofs.Sorts.{ALiteral, apart, no_literal, not_one}
use Rattle.tree_equal.proofs.rest.is_literal.Goals as goal

pub returns-in_default : goal.returns-in_default
returns-in_default c = not_one
    (apart _ _ _ ALiteral c.tree.view_is refl (no_literal _ c.in_default.not-Literal))
