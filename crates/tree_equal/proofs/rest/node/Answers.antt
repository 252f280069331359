use Rattle.std.proofs.Common.{refl}
use Rattle.tree_equal.proofs.Sorts.{ANode, apart, not_one, no_node}
use Rattle.tree_equal.proofs.rest.node.Goals as goal

pub returns-in_default : goal.returns-in_default
returns-in_default c = not_one
    (apart _ _ _ ANode c.tree.view_is refl (no_node _ c.in_default.not-Node))
