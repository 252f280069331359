-- The path, and what stands behind it.
use Rattle.reader_tokens.specs.Tokens.{tokens}
use Rattle.reader_fast.proofs.AttributeForms.{meta_read}
use Rattle.reader_fast.proofs.attributes.meta.Goals as goal

pub returns : goal.returns
returns c =
    let named = rw c.in-Some.is at c.in_ok-path.ensures.named in
    let read = rw c.in-Some.is at c.in_ok-path.ensures.read in
    let behind = rw c.in-Some-2.is at c.in_ok-behind.ensures in
    meta_read (tokens c.args.at.now) (tokens c.in-Some.rest.now) c.in-Some.path c.in-Some-2.behind
    c.in_ok-meta_of.field-0 named read behind c.in_ok-meta_of.ensures
