use Rattle.syn_lists.specs.Lists.{separators, values}
use Rattle.syn_lists.proofs.Alike.{both_alike}
use Rattle.syn_lists.proofs.laws.equal_lists.Goals as goal

pub returns : goal.returns
returns g c =
    both_alike g.T.PartialEq.eq g.P.PartialEq.eq (values c.args.a.now) (values c.args.b.now)
    (separators c.args.a.now) (separators c.args.b.now)
