use Rattle.syn_leaf.proofs.Apart.{one_spelled, one_suffix}
use Rattle.syn_leaf.proofs.laws.one_value.Goals as goal

pub returns-clause-value : goal.returns-clause-value
returns-clause-value c = λ kind text xs ys h k. one_spelled kind text xs ys h k

pub returns-clause-suffix : goal.returns-clause-suffix
returns-clause-suffix c = λ kind text xs ys h k. one_suffix kind text xs ys h k
