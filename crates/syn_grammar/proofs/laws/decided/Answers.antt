use Rattle.syn_grammar.proofs.Theorems as Theorems
use Rattle.syn_grammar.proofs.laws.decided.Goals as goal

pub returns : goal.returns
returns c = Theorems.decided
