use Rattle.laws_lists.proofs.ChainRead.{chain_found}
use Rattle.laws_lists.proofs.chain.read_as_chain.Goals as goal

pub returns : goal.returns
returns g c = λ e view m ms ts vs ps behind fits element mark h.
    chain_found _ g.P.Parse.reads _ g.P.Parse.refuses g.P.Token.stands e view m ms fits element mark ts vs ps behind h
