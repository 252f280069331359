use Rattle.std.proofs.Common.{refl}
use Rattle.tree_equal.proofs.Sorts.{ADropped, apart, not_one, no_dropped}
use Rattle.tree_equal.proofs.rest.dropped.Goals as goal

pub returns-in_default : goal.returns-in_default
returns-in_default c = not_one
    (apart _ _ _ ADropped c.tree.view_is refl (no_dropped _ c.in_default.not-Dropped))
