use Rattle.std.proofs.Common.{◌∙◌, ap}
use Rattle.rust_leaf.specs.Mark.{is_mark}
use Rattle.syn_kinds.proofs.Rows.{mark_is, mark_of_row, tilde_is_mark}
use Rattle.syn_kinds.proofs.table.mark.Goals as goal

pub returns-then-index-row-clause-is_mark : goal.returns-then-index-row-clause-is_mark
returns-then-index-row-clause-is_mark c =
    ap is_mark (mark_of_row _ _ _ (c.as_bytes-row.ensures.value ∙ c.sign_row.ensures) c.if-index-row.true) ∙ mark_is
    c.args.kind c.args.index

pub returns-else-index-row-clause-is_mark : goal.returns-else-index-row-clause-is_mark
returns-else-index-row-clause-is_mark c = tilde_is_mark
