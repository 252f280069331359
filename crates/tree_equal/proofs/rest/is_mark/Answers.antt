use Rattle.tree_equal.proofs.Sorts.{AMark, apart, no_mark, not_one, sort_mark}
use Rattle.tree_equal.proofs.rest.is_mark.Goals as goal

pub returns-in_default : goal.returns-in_default
returns-in_default c = not_one
    (apart _ _ _ AMark c.tree.view_is (sort_mark c.args.sign c.args.spacing) (no_mark _ c.in_default.not-Mark))
