use Rattle.std.proofs.Common.{refl}
use Rattle.tree_equal.proofs.Sorts.{AAlone, apart, not_one, no_alone}
use Rattle.tree_equal.proofs.rest.alone.Goals as goal

pub returns-in_default : goal.returns-in_default
returns-in_default c = not_one
    (apart _ _ _ AAlone c.tree.view_is refl (no_alone _ c.in_default.not-Alone))
