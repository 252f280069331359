use Rattle.std.proofs.Common.{ap, refl}
use Rattle.syn_grammar.specs.Name.{the_indices}
use Rattle.syn_grammar.specs.Tree as t
use Rattle.writer_normal.proofs.Stepping.{made_so}
use Rattle.writer_normal.proofs.numbers.lone_field.Goals as goal

pub returns : goal.returns
returns c y behind =
    let none = made_so c.called-none.result _ _ c.called-none.ensures (ap (t.Called the_indices) c.no_turns.ensures) in
    c.back.ensures _ _ refl (c.pair-own.ensures _ _ (c.pair-front.ensures _ _ refl none) behind)
