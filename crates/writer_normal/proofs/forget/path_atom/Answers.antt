use Rattle.std.proofs.Common.{ap}
use Rattle.syn_grammar.specs.Kept.{atom}
use Rattle.syn_grammar.specs.Kind.{ExprPath}
use Rattle.writer_normal.proofs.Stepping.{made_so}
use Rattle.writer_normal.proofs.forget.path_atom.Goals as goal

pub returns : goal.returns
returns c =
    made_so c.atom.result _ _ c.atom.ensures
    (ap (atom ExprPath) (c.in_ok-any.ensures _ (c.seconds-path.ensures _ c.as_path.ensures)))
