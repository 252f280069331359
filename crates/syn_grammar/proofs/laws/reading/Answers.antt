use Rattle.syn_grammar.proofs.Theorems as Theorems
use Rattle.syn_grammar.proofs.laws.reading.Goals as goal

pub returns-clause-found : goal.returns-clause-found
returns-clause-found c = Theorems.found

pub returns-clause-all : goal.returns-clause-all
returns-clause-all c = Theorems.all
