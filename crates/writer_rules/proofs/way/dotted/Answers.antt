use Rattle.writer_rules.proofs.WayForms.{dotted_none, dotted_one, dotted_two, dotted_three}
use Rattle.writer_rules.proofs.way.dotted.Goals as goal

pub returns-in_err-front : goal.returns-in_err-front
returns-in_err-front c = rw c.from_residual.ensures (dotted_none c.args.own.now c.in_err-front.ensures)

pub returns-in_err-dot : goal.returns-in_err-dot
returns-in_err-dot c =
    rw c.from_residual-in_err-dot.ensures (dotted_one c.args.own.now c.in_ok-front.front.now c.in_ok-front.behind.now
    c.in_ok-front.ensures c.in_err-dot.ensures)

pub returns-in_err-numbers : goal.returns-in_err-numbers
returns-in_err-numbers c =
    rw c.from_residual-in_err-numbers.ensures (dotted_two c.args.own.now c.in_ok-front.front.now
    c.in_ok-front.behind.now c.in_ok-dot.dot.now c.in_ok-dot.called.now c.in_ok-front.ensures c.in_ok-dot.ensures
    c.in_err-numbers.ensures)

pub returns : goal.returns
returns c =
    dotted_three c.args.own.now c.in_ok-front.front.now c.in_ok-front.behind.now c.in_ok-dot.dot.now
    c.in_ok-dot.called.now c.in_ok-numbers.numbers.now c.in_ok-front.ensures c.in_ok-dot.ensures
    c.in_ok-numbers.ensures
