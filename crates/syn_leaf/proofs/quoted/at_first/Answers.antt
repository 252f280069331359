use Rattle.syn_leaf.proofs.Fenced.{at_first}
use Rattle.syn_leaf.proofs.quoted.at_first.Goals as goal

pub returns : goal.returns
returns c =
    at_first c.args.quote c.args.text.now c.split_once.result c.ranges.quote.0 c.requires c.utf8.text
    c.split_once.ensures.cases
