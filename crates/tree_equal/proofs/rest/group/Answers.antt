use Rattle.std.proofs.Common.{refl}
use Rattle.tree_equal.proofs.Sorts.{AGroup, apart, not_one, no_group}
use Rattle.tree_equal.proofs.rest.group.Goals as goal

pub returns-in_default : goal.returns-in_default
returns-in_default c = not_one
    (apart _ _ _ AGroup c.tree.view_is refl (no_group _ c.in_default.not-Group))
