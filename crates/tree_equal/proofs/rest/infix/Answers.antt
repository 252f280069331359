use Rattle.std.proofs.Common.{refl}
use Rattle.tree_equal.proofs.Sorts.{AInfix, apart, not_one, no_infix}
use Rattle.tree_equal.proofs.rest.infix.Goals as goal

pub returns-in_default : goal.returns-in_default
returns-in_default c = not_one
    (apart _ _ _ AInfix c.tree.view_is refl (no_infix _ c.in_default.not-Infix))
