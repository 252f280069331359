use Rattle.syn_leaf.proofs.OfClass.{peeked, tested}
use Rattle.syn_leaf.proofs.laws.tested_kinds.Goals as goal

pub returns-clause-test : goal.returns-clause-test
returns-clause-test c = λ kind text. tested kind text

pub returns-clause-stands : goal.returns-clause-stands
returns-clause-stands c = λ kind ts. peeked kind ts
