use Rattle.std.proofs.Common.{◌∙◌}
use Rattle.writer_read.proofs.Opening.{statement_none, statement_some}
use Rattle.writer_read.proofs.opened.opens_statement.Goals as goal

pub returns-in-Some : goal.returns-in-Some
returns-in-Some c =
    c.opens_behind.ensures
    ∙ statement_some c.args.inner.now c.in-Some.stated.before.now c.in-Some.stated.form.now
    c.in-Some.stated.behind.now c.in-Some.ensures

pub returns-in-None : goal.returns-in-None
returns-in-None c = statement_none c.args.inner.now c.in-None.ensures
