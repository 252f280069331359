use Rattle.laws_edges.proofs.Edges as Edges
use Rattle.laws_edges.proofs.laws.by_edges.Goals as goal

pub returns-clause-to : goal.returns-clause-to
returns-clause-to c = λ p x rest d. Edges.to_edges x p rest d

pub returns-clause-from : goal.returns-clause-from
returns-clause-from c = λ p x rest s b e. Edges.from_edges x p rest s b e
