use Rattle.std.proofs.Common.{refl}
use Rattle.tree_equal.proofs.Sorts.{ACalled, apart, not_one, no_called}
use Rattle.tree_equal.proofs.rest.called.Goals as goal

pub returns-in_default : goal.returns-in_default
returns-in_default c = not_one
    (apart _ _ _ ACalled c.tree.view_is refl (no_called _ c.in_default.not-Called))
