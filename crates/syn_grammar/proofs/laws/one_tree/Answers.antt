use Rattle.syn_grammar.proofs.Theorems as Theorems
use Rattle.syn_grammar.proofs.laws.one_tree.Goals as goal

pub returns : goal.returns
returns c = Theorems.one
