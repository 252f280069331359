use Rattle.std.proofs.Common.{refl}
use Rattle.tree_equal.proofs.Sorts.{ABack, apart, not_one, no_back}
use Rattle.tree_equal.proofs.rest.back.Goals as goal

pub returns-in_default : goal.returns-in_default
returns-in_default c = not_one
    (apart _ _ _ ABack c.tree.view_is refl (no_back _ c.in_default.not-Back))
