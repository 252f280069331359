use Rattle.syn_grammar.proofs.Shapes as Shapes
use Rattle.syn_grammar.proofs.laws.shapes.Goals as goal

pub returns-clause-right : goal.returns-clause-right
returns-clause-right c = Shapes.right_is

pub returns-clause-left : goal.returns-clause-left
returns-clause-left c = λ k ts x e. Shapes.ended_is k ts e x
