use Rattle.writer_rules.proofs.OffKinds.{is_attributed_off}
use Rattle.writer_rules.proofs.shell.is_attributed.Goals as goal

pub returns-in_default : goal.returns-in_default
returns-in_default c = is_attributed_off c.args.kind c.in_default.not-ExprAttributed
