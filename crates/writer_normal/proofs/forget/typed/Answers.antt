use Rattle.std.proofs.Common.{ap}
use Rattle.syn_grammar.specs.Name.{the_type}
use Rattle.syn_grammar.specs.Tree as t
use Rattle.writer_normal.proofs.Stepping.{made_so}
use Rattle.writer_normal.proofs.forget.typed.Goals as goal

pub returns : goal.returns
returns c =
    let given = made_so c.called.result _ _ c.called.ensures (ap (t.Called the_type) c.copy.ensures) in
    let rest = c.pair-rest.ensures _ _ c.mark-colon.ensures (c.seconds-behind.ensures _ given) in
    c.pair.ensures _ _ c.copy-2.ensures
    (c.seconds-third.ensures _ (c.pair-both.ensures _ _ (c.called-pattern.ensures _ c.wild.ensures) rest))
