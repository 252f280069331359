use Rattle.std.proofs.Common.{ap}
use Rattle.syn_grammar.specs.Tree as t
use Rattle.writer_normal.proofs.Stepping.{made_so}
use Rattle.writer_normal.proofs.stated.stated_macro.Goals as goal

pub returns : goal.returns
returns c =
    let rest = made_so c.pair-rest.result _ _ c.pair-rest.ensures (ap (t.Pair c.args.own) c.copy.ensures) in
    c.first_behind.ensures _ (c.pair-all.ensures _ _ c.copy-2.ensures rest)
