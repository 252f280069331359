use Rattle.laws_reread_expressions.specs.Behind.{AtEnd, BeforeOperand, BehindOperand}
use Rattle.laws_reread_expressions.proofs.Owns as Owns
use Rattle.laws_reread_expressions.proofs.laws.own_parts.Goals as goal

pub returns-clause-front : goal.returns-clause-front
returns-clause-front c = λ k y e o. (Owns.front_part AtEnd k y e o, Owns.front_part (BeforeOperand k y) k y e o)

pub returns-clause-behind : goal.returns-clause-behind
returns-clause-behind c =
    λ k y e o. (Owns.behind_part (BehindOperand k y) k y e o, Owns.behind_part (BeforeOperand k y) k y e o)
