use Rattle.syn_grammar.proofs.Steps as steps
use Rattle.syn_grammar.proofs.laws.keeping.Goals as goal

pub returns-clause-given : goal.returns-clause-given
returns-clause-given c = steps.given

pub returns-clause-none : goal.returns-clause-none
returns-clause-none c = steps.none
