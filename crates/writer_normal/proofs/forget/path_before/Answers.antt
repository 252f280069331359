use Rattle.std.proofs.Common.{ap}
use Rattle.syn_grammar.specs.Kept.{as_path}
use Rattle.writer_normal.proofs.Stepping.{made_so}
use Rattle.writer_normal.proofs.forget.path_before.Goals as goal

pub returns : goal.returns
returns c =
    let path = made_so c.as_path.result _ _ c.as_path.ensures (ap as_path c.copy.ensures) in
    c.pair.ensures _ _ (c.seconds-path.ensures _ path) c.copy-2.ensures
