use Rattle.syn_leaf.proofs.Fenced.{at_last}
use Rattle.syn_leaf.proofs.quoted.at_last.Goals as goal

pub returns : goal.returns
returns c =
    at_last c.args.quote c.args.text.now c.rsplit_once.result c.ranges.quote.0 c.requires c.utf8.text
    c.rsplit_once.ensures.cases
