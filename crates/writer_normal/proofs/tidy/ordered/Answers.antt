use Rattle.std.proofs.Common.{◌∙◌}
use Rattle.writer_normal.proofs.Tidying.{ordered_off}
use Rattle.writer_normal.proofs.tidy.ordered.Goals as goal

pub returns-in_default : goal.returns-in_default
returns-in_default c =
    c.copy.ensures
    ∙ ordered_off c.args.kind c.args.inner.now c.in_default.not-GenericParams c.in_default.not-Arguments
    c.in_default.not-ATypeAlias
