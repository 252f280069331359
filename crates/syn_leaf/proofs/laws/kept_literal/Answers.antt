use Rattle.std.proofs.Common.{◌++◌, ◌∙◌, ap, sym}
use Rattle.syn_leaf.proofs.Kept.{kept_lit}
use Rattle.syn_leaf.proofs.laws.kept_literal.Goals as goal

pub returns : goal.returns
returns c =
    λ ts us printed plus read put. kept_lit c.args.literal.now ts us plus read.0
    ∙ ap (λ tokens. tokens ++ us) (sym put)
