use Rattle.std.proofs.Common.{refl}
use Rattle.tree_equal.proofs.Sorts.{ARaw, apart, no_raw, not_one}
use Rattle.tree_equal.proofs.rest.is_raw.Goals as goal

pub returns-in_default : goal.returns-in_default
returns-in_default c = not_one
    (apart _ _ _ ARaw c.tree.view_is refl (no_raw _ c.in_default.not-Raw))
