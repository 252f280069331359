use Rattle.std.proofs.Common.{refl}
use Rattle.tree_equal.proofs.Sorts.{AFront, apart, not_one, no_front}
use Rattle.tree_equal.proofs.rest.front.Goals as goal

pub returns-in_default : goal.returns-in_default
returns-in_default c = not_one
    (apart _ _ _ AFront c.tree.view_is refl (no_front _ c.in_default.not-Front))
