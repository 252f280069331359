use Rattle.std.specs.Cmp.{and_equiv, on_equiv}
use Rattle.std.proofs.lemmas.Cmp.{lists_equiv}
use Rattle.syn_lists.specs.Lists.{separators, values}
use Rattle.syn_lists.proofs.laws.equivalence_of_lists.Goals as goal

pub returns : goal.returns
returns g c =
    and_equiv
    (on_equiv (values {T = g.row.T.Denot} {P = g.row.P.Denot}) (lists_equiv g.met.T.Eq.laws))
    (on_equiv (separators {T = g.row.T.Denot} {P = g.row.P.Denot}) (lists_equiv g.met.P.Eq.laws))
