use Rattle.std.proofs.Common.{◌∙◌}
use Rattle.writer_normal.proofs.Tidying.{emptied_off}
use Rattle.writer_normal.proofs.tidy.emptied.Goals as goal

pub returns-in_default : goal.returns-in_default
returns-in_default c =
    c.copy-in_default.ensures
    ∙ emptied_off c.args.kind c.args.inner.now c.in_default.not-Where c.in_default.not-Generics
    c.in_default.not-BoundsColon c.in_default.not-LifetimeColon c.in_default.not-AnImpl
