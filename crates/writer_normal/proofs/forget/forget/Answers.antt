use Rattle.std.proofs.Common.{◌∙◌}
use Rattle.writer_normal.proofs.Forgetting.{forget_off}
use Rattle.writer_normal.proofs.forget.forget.Goals as goal

pub returns-in_default : goal.returns-in_default
returns-in_default c =
    c.copy.ensures
    ∙ forget_off c.args.kind c.args.inner.now c.in_default.not-Parameter c.in_default.not-DynType
    c.in_default.not-ImplType c.in_default.not-Meta c.in_default.not-AStatement c.in_default.not-Member
    c.in_default.not-Index c.in_default.not-Arm c.in_default.not-AnArgument c.in_default.not-ConstParam
