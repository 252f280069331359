use Rattle.writer_rules.proofs.SeenForms.{alone_pair, alone_third, alone_type, alone_unnamed}
use Rattle.writer_rules.proofs.seen.type_alone.Goals as goal

pub returns-in_err-front : goal.returns-in_err-front
returns-in_err-front c = rw c.from_residual.ensures (alone_pair c.args.inner.now c.in_err-front.ensures)

pub returns-in_err-named : goal.returns-in_err-named
returns-in_err-named c =
    rw c.from_residual-in_err-named.ensures (alone_third c.args.inner.now c.in_ok-front.front.now
    c.in_ok-front.back.now c.in_ok-front.ensures c.in_err-named.ensures)

pub returns-in_err-given : goal.returns-in_err-given
returns-in_err-given c =
    rw c.from_residual-in_err-given.ensures (alone_unnamed c.args.inner.now c.in_ok-front.front.now
    c.in_ok-front.back.now c.in_ok-named.named.now c.in_ok-front.ensures c.in_ok-named.ensures
    c.in_err-given.ensures)

pub returns : goal.returns
returns c =
    alone_type c.args.inner.now c.in_ok-front.front.now c.in_ok-front.back.now c.in_ok-named.named.now
    c.in_ok-given.given.now c.in_ok-front.ensures c.in_ok-named.ensures c.in_ok-given.ensures
