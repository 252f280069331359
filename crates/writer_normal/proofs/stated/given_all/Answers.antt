use Rattle.std.proofs.Common.{ap, refl}
use Rattle.syn_grammar.specs.Kept.{attributed_in}
use Rattle.writer_normal.proofs.Stepping.{made_so}
use Rattle.writer_normal.proofs.stated.given_all.Goals as goal

pub returns : goal.returns
returns c =
    made_so c.attributed_in.result _ _ c.attributed_in.ensures
    (ap (λ x. attributed_in x c.args.tree.now) (c.in_ok-all.ensures _ _ refl c.node-behind.ensures))
