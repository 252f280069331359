use Rattle.laws_ranges.proofs.OfStatements as OfStatements
use Rattle.laws_ranges.proofs.laws.statements_opened.Goals as goal

pub returns-clause-one : goal.returns-clause-one
returns-clause-one c = OfStatements.node_begins

pub returns-clause-turns : goal.returns-clause-turns
returns-clause-turns c = OfStatements.turns_enclose
