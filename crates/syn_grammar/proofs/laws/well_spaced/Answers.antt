use Rattle.syn_grammar.proofs.Spaced as Spaced
use Rattle.syn_grammar.proofs.laws.well_spaced.Goals as goal

pub returns : goal.returns
returns c = Spaced.spaced
