use Rattle.std.proofs.lemmas.Str.Pattern.{strip_suffix_char}
use Rattle.rust_leaf.proofs.Quotes.{before_char}
use Rattle.rust_leaf.proofs.quoted.before.Goals as goal

pub returns : goal.returns
returns c =
    before_char c.args.last c.args.text.now c.strip_suffix.result c.requires c.utf8.text
    (strip_suffix_char c.args.last c.args.text.now c.strip_suffix.result c.strip_suffix.ensures.cases c.requires)
