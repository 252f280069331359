-- The attribute that stands there.
use Rattle.reader_tokens.specs.Tokens.{tokens}
use Rattle.reader_fast.specs.Attributes.{attribute_of}
use Rattle.syn_grammar.specs.Kind.{OuterAttribute}
use Rattle.reader_fast.proofs.attributes.outer_attribute.Goals as goal

pub returns-clause-read : goal.returns-clause-read
returns-clause-read c =
    let meta = rw c.in-Some-2.is at c.in_ok-meta.ensures in
    c.found.ensures.read 10 OuterAttribute (tokens c.args.at.now) (attribute_of c.in-Some.spacing c.in-Some-2.meta)
    (c.in-Some.ensures.attribute c.in-Some-2.meta meta) c.attribute_of-attribute.ensures
