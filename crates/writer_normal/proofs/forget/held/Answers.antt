use Rattle.writer_normal.proofs.Forgetting.{held_off}
use Rattle.writer_normal.proofs.forget.held.Goals as goal

pub returns-in_default : goal.returns-in_default
returns-in_default c =
    held_off c.args.kind c.in_default.not-Path c.in_default.not-Segments c.in_default.not-Segment
    c.in_default.not-QualifiedPath c.in_default.not-AnyPath c.in_default.not-AType c.in_default.not-DynType
    c.in_default.not-ImplType c.in_default.not-ReturnType c.in_default.not-Expression c.in_default.not-Signature
