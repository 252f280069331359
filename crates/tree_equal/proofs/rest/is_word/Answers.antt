use Rattle.std.proofs.Common.{refl}
use Rattle.tree_equal.proofs.Sorts.{AWord, apart, no_word, not_one}
use Rattle.tree_equal.proofs.rest.is_word.Goals as goal

pub returns-in_default : goal.returns-in_default
returns-in_default c = not_one
    (apart _ _ _ AWord c.tree.view_is refl (no_word _ c.in_default.not-Word))
