use Rattle.laws_edges.proofs.Edges as Edges
use Rattle.laws_edges.proofs.laws.expressions.Goals as goal

pub returns-clause-to : goal.returns-clause-to
returns-clause-to c = λ p x rest d. Edges.to_expression p x rest d

pub returns-clause-from : goal.returns-clause-from
returns-clause-from c = λ p x rest d. Edges.from_expression p x rest d
