use Rattle.std.proofs.Common.{refl}
use Rattle.tree_equal.proofs.Sorts.{ALifetime, apart, no_lifetime, not_one}
use Rattle.tree_equal.proofs.rest.is_lifetime.Goals as goal

pub returns-in_default : goal.returns-in_default
returns-in_default c = not_one
    (apart _ _ _ ALifetime c.tree.view_is refl (no_lifetime _ c.in_default.not-Lifetime))
