use Rattle.writer_normal.proofs.forget.atom.Goals as goal

pub returns : goal.returns
returns c = c.node.ensures _ (c.whole-form.ensures _ c.alone.ensures)
