use Rattle.laws_lists.proofs.ChainRead.{chain_none}
use Rattle.laws_lists.proofs.chain.refused_as_chain.Goals as goal

pub returns : goal.returns
returns g c = λ e view m ms ts fits element mark h.
    chain_none _ g.P.Parse.reads _ g.P.Parse.refuses g.P.Token.stands e view m ms fits element mark ts h
