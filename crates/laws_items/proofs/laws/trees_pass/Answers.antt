use Rattle.laws_items.proofs.Passed as Passed
use Rattle.laws_items.proofs.laws.trees_pass.Goals as goal

pub returns : goal.returns
returns c = Passed.tree_passed
