use Rattle.writer_normal.proofs.stated.expressed.Goals as goal

pub returns : goal.returns
returns c =
    c.seconds.ensures _ (c.pair-all.ensures _ _ (c.called-left.ensures _ c.left_in_front.ensures)
    (c.pair-rest.ensures _ _ (c.called-stated.ensures _ c.given.ensures) c.copy.ensures))
