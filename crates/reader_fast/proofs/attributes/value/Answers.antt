-- The literal that stands there.
use Rattle.reader_tokens.specs.Tokens.{tokens}
use Rattle.reader_fast.proofs.attributes.value.Goals as goal

pub returns-in-Some : goal.returns-in-Some
returns-in-Some c = c.some_behind.ensures (tokens c.args.at.now) _ c.in-Some.ensures c.value_of.ensures
