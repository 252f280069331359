use Rattle.std.proofs.lemmas.Str.Pattern.{strip_prefix_char}
use Rattle.rust_leaf.proofs.Quotes.{behind_char}
use Rattle.syn_input.proofs.raw.behind.Goals as goal

pub returns : goal.returns
returns c =
    behind_char c.args.first c.args.text.now c.strip_prefix.result c.requires c.utf8.text
    (strip_prefix_char c.args.first c.args.text.now c.strip_prefix.result c.strip_prefix.ensures.cases c.requires)
