use Rattle.std.proofs.Common.{ap, ◌∙◌, sym}
use Rattle.reader_table.specs.Kinds.{kind_of}
use Rattle.writer_rules.specs.Way.{last_text}
use Rattle.writer_rules.proofs.WayForms.{last_none, last_other, last_value}
use Rattle.writer_rules.proofs.way.last_number.Goals as goal

pub returns-in_err-last-in-ExprField : goal.returns-in_err-last-in-ExprField
returns-in_err-last-in-ExprField c =
    rw c.from_residual.ensures (last_none c.args.behind.now c.in_err-last-in-ExprField.ensures
    ∙ ap (λ k. last_text (kind_of k) c.args.behind.now) (sym c.in-ExprField.is))

pub returns-in_ok-last-in-ExprField : goal.returns-in_ok-last-in-ExprField
returns-in_ok-last-in-ExprField c =
    c.value.ensures
    ∙ last_value c.args.behind.now c.in_ok-last-in-ExprField.field-0.now c.in_ok-last-in-ExprField.ensures
    ∙ ap (λ k. last_text (kind_of k) c.args.behind.now) (sym c.in-ExprField.is)

pub returns-in_default : goal.returns-in_default
returns-in_default c = last_other c.args.kind c.args.behind.now c.in_default.not-ExprField
