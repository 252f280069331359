-- The mark, and the literal behind it.
use Rattle.std.proofs.Common.{refl}
use Rattle.reader_tokens.specs.Tokens.{tokens}
use Rattle.rust_leaf.specs.Leaf.{literal_text}
use Rattle.reader_fast.proofs.AttributeForms.{value_behind}
use Rattle.reader_fast.specs.Attributes.{value_of}
use Rattle.reader_fast.proofs.attributes.only_value.Goals as goal

pub returns : goal.returns
returns c =
    let cs = literal_text c.in_ok-literal.literal.now in
    value_behind c.in_ok-spacing.spacing cs (tokens c.args.at.now) (tokens c.in_ok-spacing.rest.now)
    (value_of c.in_ok-spacing.spacing cs) c.in_ok-spacing.ensures.mark c.in_ok-literal.ensures refl
