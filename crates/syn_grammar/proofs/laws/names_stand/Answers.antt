use Rattle.syn_grammar.proofs.NamesStand as NamesStand
use Rattle.syn_grammar.proofs.laws.names_stand.Goals as goal

pub returns : goal.returns
returns c = NamesStand.all_stand
