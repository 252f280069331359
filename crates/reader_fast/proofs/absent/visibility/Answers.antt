-- None stands there, or pub.
use Rattle.std.proofs.Common.{refl}
use Rattle.reader_tokens.specs.Tokens.{tokens}
use Rattle.rust_leaf.specs.Leaf.{ident_text}
use Rattle.reader_fast.proofs.NoneStand.{no_visibility, pub_at}
use Rattle.reader_fast.specs.Absent.{nothing, public}
use Rattle.syn_grammar.specs.Kind.{Visibility}
use Rattle.reader_fast.proofs.absent.visibility.Goals as goal

pub returns-in_default-clause-read : goal.returns-in_default-clause-read
returns-in_default-clause-read c =
    let ts = tokens c.args.at.now in
    c.found.ensures.read 1 Visibility ts (nothing Visibility) (no_visibility ts c.in_default.ensures.none)
    c.nothing.ensures

pub returns-clause-read : goal.returns-clause-read
returns-clause-read c =
    let ts = tokens c.args.at.now in
    let cs = ident_text c.in-Some.word.now in
    c.found-2.ensures.read 1 Visibility ts (public cs)
    (pub_at cs ts (tokens c.in-Some.rest.now) (public cs) c.in-Some.ensures.first c.in-Some.ensures.text
    (c.opens_none.ensures c.if-not-opens_none.false) refl) c.public.ensures
