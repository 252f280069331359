use Rattle.std.proofs.Common.{ap}
use Rattle.syn_grammar.specs.Tree as t
use Rattle.reader_tree.specs.Forms.{elements}
use Rattle.writer_normal.proofs.Stepping.{made_so}
use Rattle.writer_normal.proofs.forget.one_bound.Goals as goal

pub returns : goal.returns
returns c =
    let list = made_so c.elements-list.result _ _ c.elements-list.ensures
    (ap (λ es. elements 43 es (t.Final c.args.bound)) c.new.ensures.items) in
    c.pair.ensures _ _ c.copy.ensures
    (c.called-part.ensures _ (c.node-bounds.ensures _ (c.first_behind.ensures _ list)))
