use Rattle.std.proofs.Common.{◌∙◌, ap}
use Rattle.syn_grammar.specs.Kind.{WildPattern}
use Rattle.syn_grammar.specs.Tree as t
use Rattle.writer_normal.proofs.Stepping.{made_so}
use Rattle.writer_normal.proofs.forget.wild.Goals as goal

pub returns : goal.returns
returns c =
    c.node.ensures _ (c.first_behind-chosen.ensures _ (made_so c.node-pattern.result _ _ c.node-pattern.ensures
    (ap (t.Node WildPattern) (c.word.ensures ∙ ap t.AWord c.in_ok-name.ensures))))
