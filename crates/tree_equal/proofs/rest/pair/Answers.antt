use Rattle.std.proofs.Common.{refl}
use Rattle.tree_equal.proofs.Sorts.{APair, apart, not_one, no_pair}
use Rattle.tree_equal.proofs.rest.pair.Goals as goal

pub returns-in_default : goal.returns-in_default
returns-in_default c = not_one
    (apart _ _ _ APair c.tree.view_is refl (no_pair _ c.in_default.not-Pair))
