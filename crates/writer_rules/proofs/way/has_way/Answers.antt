use Rattle.writer_rules.proofs.WayForms.{other_node}
use Rattle.writer_rules.proofs.way.has_way.Goals as goal

pub returns-in_default : goal.returns-in_default
returns-in_default c x =
    other_node c.args.kind x c.in_default.not-Parameter c.in_default.not-Member c.in_default.not-Index
    c.in_default.not-Where c.in_default.not-Generics c.in_default.not-BoundsColon c.in_default.not-LifetimeColon
    c.in_default.not-GenericParams c.in_default.not-Arguments c.in_default.not-AnImpl c.in_default.not-AStatement
