use Rattle.std.proofs.Common.{◌∙◌, sym, ap, arith}
use Rattle.syn_kinds.specs.Table.{quoted}
use Rattle.syn_kinds.proofs.Rows.{sign_at, sign_past}
use Rattle.syn_kinds.proofs.table.sign_row.Goals as goal

pub returns-then-kind-lt46 : goal.returns-then-kind-lt46
returns-then-kind-lt46 c = c.entry.ensures ∙ sign_at c.args.kind (omega arith)

pub returns-else-kind-lt46 : goal.returns-else-kind-lt46
returns-else-kind-lt46 c = sym (ap quoted (sign_past c.args.kind (omega arith)))
