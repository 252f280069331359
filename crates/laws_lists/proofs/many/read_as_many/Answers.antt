use Rattle.laws_lists.proofs.ManyRead.{many_found}
use Rattle.laws_lists.proofs.many.read_as_many.Goals as goal

pub returns : goal.returns
returns g c = λ e view m ts vs ps behind fits element mark h.
    many_found _ g.P.Parse.reads _ g.P.Parse.refuses g.E.Token.stands g.P.Token.stands e view m fits element mark ts vs
    ps behind h
