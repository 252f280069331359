use Rattle.std.proofs.Common.{refl}
use Rattle.tree_equal.proofs.Sorts.{AWhole, apart, not_one, no_whole}
use Rattle.tree_equal.proofs.rest.whole.Goals as goal

pub returns-in_default : goal.returns-in_default
returns-in_default c = not_one
    (apart _ _ _ AWhole c.tree.view_is refl (no_whole _ c.in_default.not-Whole))
