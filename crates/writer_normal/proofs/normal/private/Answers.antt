use Rattle.std.proofs.Common.{ap}
use Rattle.syn_grammar.specs.Tree as t
use Rattle.writer_normal.proofs.Stepping.{made_so}
use Rattle.writer_normal.proofs.normal.private.Goals as goal

pub returns : goal.returns
returns c = c.node.ensures _ (made_so c.second.result _ _ c.second.ensures (ap t.Second c.nil.ensures))
