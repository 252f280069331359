use Rattle.writer_normal.proofs.stated.attributed_whole.Goals as goal

pub returns : goal.returns
returns c = c.node.ensures _ (c.whole-given.ensures _ c.attributed.ensures)
