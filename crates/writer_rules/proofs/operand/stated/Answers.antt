use Rattle.writer_rules.proofs.Operands.{stated_before, stated_form, stated_named, stated_pair, stated_unformed}
use Rattle.writer_rules.proofs.Operands.{stated_unnamed}
use Rattle.writer_rules.proofs.operand.stated.Goals as goal

pub returns-in_err-attributes : goal.returns-in_err-attributes
returns-in_err-attributes c =
    rw c.from_residual.ensures (stated_pair c.args.inner.now c.in_err-attributes.ensures)

pub returns-in_err-before : goal.returns-in_err-before
returns-in_err-before c =
    rw c.from_residual-in_err-before.ensures (stated_before c.args.inner.now c.in_ok-attributes.attributes.now
    c.in_ok-attributes.rest.now c.in_ok-attributes.ensures c.in_err-before.ensures)

pub returns-in_err-named : goal.returns-in_err-named
returns-in_err-named c =
    rw c.from_residual-in_err-named.ensures (stated_named c.args.inner.now c.in_ok-attributes.attributes.now
    c.in_ok-attributes.rest.now c.in_ok-before.before.now c.in_ok-attributes.ensures c.in_ok-before.ensures
    c.in_err-named.ensures)

pub returns-in_err-expression : goal.returns-in_err-expression
returns-in_err-expression c =
    rw c.from_residual-in_err-expression.ensures (stated_unnamed c.args.inner.now c.in_ok-attributes.attributes.now
    c.in_ok-attributes.rest.now c.in_ok-before.before.now c.in_ok-named.named.now c.in_ok-named.behind.now
    c.in_ok-attributes.ensures c.in_ok-before.ensures c.in_ok-named.ensures c.in_err-expression.ensures)

pub returns-in_err-form : goal.returns-in_err-form
returns-in_err-form c =
    rw c.from_residual-in_err-form.ensures (stated_unformed c.args.inner.now c.in_ok-attributes.attributes.now
    c.in_ok-attributes.rest.now c.in_ok-before.before.now c.in_ok-named.named.now c.in_ok-named.behind.now
    c.in_ok-expression.field-0.now c.in_ok-attributes.ensures c.in_ok-before.ensures c.in_ok-named.ensures
    c.in_ok-expression.ensures c.in_err-form.ensures)

pub returns : goal.returns
returns c =
    stated_form c.args.inner.now c.in_ok-attributes.attributes.now c.in_ok-attributes.rest.now
    c.in_ok-before.before.now c.in_ok-named.named.now c.in_ok-named.behind.now c.in_ok-expression.field-0.now
    c.in_ok-form.form.now c.in_ok-attributes.ensures c.in_ok-before.ensures c.in_ok-named.ensures
    c.in_ok-expression.ensures c.in_ok-form.ensures
