use Rattle.std.proofs.Common.{refl}
use Rattle.writer_normal.proofs.paren.infix.Goals as goal

pub returns : goal.returns
returns c = c.infix.ensures _ _ _ c.left_of-left.ensures refl c.right_of-right.ensures
