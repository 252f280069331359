use Rattle.std.proofs.Common.{rules}
use Rattle.std.specs.Str.{chars}
use Rattle.rust_leaf.proofs.Quotes.{peeled_lone, peeled_more, peeled_end}
use Rattle.rust_leaf.proofs.quoted.unfenced.Goals as goal

pub returns-in_err-inner : goal.returns-in_err-inner
returns-in_err-inner c =
    let lone = peeled_lone (chars c.args.text.now) (chars c.loop-rest.inner.now) (chars c.in-Some.rest.now)
    c.loop-rest.invariant.1 c.in-Some.ensures in
    search rules

pub loop-rest-preserved : goal.loop-rest-preserved
loop-rest-preserved c =
    let more = peeled_more (chars c.args.text.now) (chars c.loop-rest.inner.now) (chars c.in-Some.rest.now)
    (chars c.in_ok-inner.inner.now) c.loop-rest.invariant.1 c.in-Some.ensures in
    search rules

pub returns : goal.returns
returns c = peeled_end (chars c.args.text.now) (chars c.loop-rest.inner.now) c.unquoted.result c.loop-rest.invariant.1
    c.in_default.ensures c.unquoted.ensures
