use Rattle.std.proofs.Common.{◌∙◌, ap}
use Rattle.syn_grammar.specs.Tree as t
use Rattle.reader_tree.specs.Forms.{elements}
use Rattle.writer_normal.proofs.Stepping.{made_so}
use Rattle.writer_normal.proofs.paren.in_parens.Goals as goal

pub returns : goal.returns
returns c =
    c.alone.ensures _ (c.group-own.ensures _ (made_so c.elements-list.result _ _ c.elements-list.ensures
    (ap (λ es. elements 44 es (t.Final c.in_ok-expression.expression)) c.new.ensures.items
    ∙ ap t.Final (c.in_ok-expression.ensures _ c.whole-form.ensures))))
