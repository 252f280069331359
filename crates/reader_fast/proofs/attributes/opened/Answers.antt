-- The mark, and the group behind it.
use Rattle.std.proofs.Common.{refl}
use Rattle.reader_tokens.specs.Tokens.{tokens}
use Rattle.reader_fast.proofs.AttributeForms.{attribute_at}
use Rattle.reader_fast.specs.Attributes.{attribute_of}
use Rattle.reader_fast.proofs.attributes.opened.Goals as goal

pub returns-clause-attribute : goal.returns-clause-attribute
returns-clause-attribute c = λ x read.
    attribute_at c.in_ok-spacing.spacing (tokens c.args.at.now) (tokens c.in_ok-spacing.rest.now)
    (tokens c.in_ok-group.group.inside.now) (tokens c.in_ok-group.group.behind.now) x
    (attribute_of c.in_ok-spacing.spacing x) c.in_ok-spacing.ensures.mark c.in_ok-group.ensures.enters read refl
