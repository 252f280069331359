use Rattle.syn_grammar.proofs.KeptForms as KeptForms
use Rattle.syn_grammar.proofs.NormalKept as NormalKept
use Rattle.syn_grammar.proofs.laws.kept_normal.Goals as goal

pub returns-clause-twice : goal.returns-clause-twice
returns-clause-twice c = KeptForms.kept_twice

pub returns-clause-normal : goal.returns-clause-normal
returns-clause-normal c = NormalKept.kept_normal
