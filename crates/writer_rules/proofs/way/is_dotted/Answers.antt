use Rattle.writer_rules.proofs.WayForms.{undotted}
use Rattle.writer_rules.proofs.way.is_dotted.Goals as goal

pub returns-in_default : goal.returns-in_default
returns-in_default c =
    undotted c.args.kind c.in_default.not-ExprField c.in_default.not-ExprMethodCall c.in_default.not-ExprAwait
