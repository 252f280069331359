use Rattle.std.proofs.Common.{◌++◌, ◌∙◌, ap, sym}
use Rattle.syn_leaf.proofs.laws.kept_of_class.Goals as goal

pub returns : goal.returns
returns g c = λ ts us printed read put. read.0 ∙ ap (λ tokens. tokens ++ us) (sym put)
