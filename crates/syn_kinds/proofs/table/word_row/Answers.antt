use Rattle.std.proofs.Common.{◌∙◌, sym, ap, arith}
use Rattle.syn_kinds.specs.Table.{quoted}
use Rattle.syn_kinds.proofs.Rows.{word_at, word_past}
use Rattle.syn_kinds.proofs.table.word_row.Goals as goal

pub returns-then-kind-lt56 : goal.returns-then-kind-lt56
returns-then-kind-lt56 c = c.entry.ensures ∙ word_at c.args.kind (omega arith)

pub returns-else-kind-lt56 : goal.returns-else-kind-lt56
returns-else-kind-lt56 c = sym (ap quoted (word_past c.args.kind (omega arith)))
