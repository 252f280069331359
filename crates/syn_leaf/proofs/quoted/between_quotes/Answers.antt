use Rattle.std.specs.Str.{chars}
use Rattle.syn_leaf.proofs.Fenced.{no_last}
use Rattle.syn_leaf.proofs.quoted.between_quotes.Goals as goal

pub unreachable-requires-in_default-at_last : goal.unreachable-requires-in_default-at_last
unreachable-requires-in_default-at_last c =
    no_last c.args.quote (chars c.args.text.now) (chars c.in-Some.opening.now) (chars c.in-Some.rest.now) _ _ _
    c.requires.there.3 c.in-Some.ensures.0 c.in-Some.ensures.1 c.in_default-at_last.ensures
