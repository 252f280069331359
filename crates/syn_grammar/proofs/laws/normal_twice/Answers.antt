use Rattle.syn_grammar.specs.Kind.{Plain}
use Rattle.syn_grammar.proofs.Settled as Settled
use Rattle.syn_grammar.proofs.laws.normal_twice.Goals as goal

pub returns : goal.returns
returns c = Settled.normal_twice Plain
