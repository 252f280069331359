use Rattle.std.specs.Str.{chars}
use Rattle.syn_leaf.proofs.Apart.{fenced_there}
use Rattle.syn_leaf.proofs.quoted.taken_apart.Goals as goal

pub between_quotes-parts-requires-clause-there : goal.between_quotes-parts-requires-clause-there
between_quotes-parts-requires-clause-there c =
    fenced_there c.args.kind (chars c.args.text.now) c.quote_of.result c.requires.quoted c.requires.there
    c.quote_of.ensures.quote
