use Rattle.std.proofs.Common.{rules}
use Rattle.std.specs.Str.{chars}
use Rattle.rust_leaf.proofs.Quotes.{no_prefix, plain_quoted, raw_quoted}
use Rattle.rust_leaf.proofs.quoted.quoted.Goals as goal

pub returns-in_err-rest : goal.returns-in_err-rest
returns-in_err-rest c = search (rules, no_prefix)

pub returns-in_ok-unfenced-in-Some : goal.returns-in_ok-unfenced-in-Some
returns-in_ok-unfenced-in-Some c =
    let (n, e) = c.in_ok-unfenced-in-Some.ensures in
    rw c.raw.ensures
    (raw_quoted c.args.content (chars c.args.text.now) (chars c.in_ok-rest.rest.now) (chars c.in-Some.rest.now)
    (chars c.in_ok-unfenced-in-Some.field-0.now) n c.in_ok-rest.ensures c.in-Some.ensures e)

pub returns-in_ok-unquoted-in-None : goal.returns-in_ok-unquoted-in-None
returns-in_ok-unquoted-in-None c =
    rw c.cooked.ensures
    (plain_quoted c.args.content (chars c.args.text.now) (chars c.in_ok-rest.rest.now)
    (chars c.in_ok-unquoted-in-None.field-0.now) c.in_ok-rest.ensures c.in_ok-unquoted-in-None.ensures)
