use Rattle.laws_lists.proofs.ManyRead.{many_none}
use Rattle.laws_lists.proofs.many.refused_as_many.Goals as goal

pub returns : goal.returns
returns g c = λ e view m ts fits element mark h.
    many_none _ g.P.Parse.reads _ g.P.Parse.refuses g.E.Token.stands g.P.Token.stands e view m fits element mark ts h
