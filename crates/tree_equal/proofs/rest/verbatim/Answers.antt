use Rattle.std.proofs.Common.{refl}
use Rattle.tree_equal.proofs.Sorts.{AVerbatim, apart, not_one, no_verbatim}
use Rattle.tree_equal.proofs.rest.verbatim.Goals as goal

pub returns-in_default : goal.returns-in_default
returns-in_default c = not_one
    (apart _ _ _ AVerbatim c.tree.view_is refl (no_verbatim _ c.in_default.not-Verbatim))
