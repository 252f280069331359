use Rattle.std.proofs.Common.{refl}
use Rattle.tree_equal.proofs.Sorts.{ANil, apart, no_nil, not_one}
use Rattle.tree_equal.proofs.rest.is_nil.Goals as goal

pub returns-in_default : goal.returns-in_default
returns-in_default c = not_one (apart _ _ _ ANil c.tree.view_is refl (no_nil _ c.in_default.not-Nil))
