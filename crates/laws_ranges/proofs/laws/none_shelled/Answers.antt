use Rattle.syn_grammar.specs.Table.{table}
use Rattle.laws_ranges.proofs.Unshelled as Unshelled
use Rattle.laws_ranges.proofs.laws.none_shelled.Goals as goal

pub returns : goal.returns
unfolding table
returns c = λ p x rest d h. Unshelled.unshelled x p rest d.1.1 h
