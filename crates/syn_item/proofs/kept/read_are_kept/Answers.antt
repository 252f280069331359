use Rattle.syn_item.proofs.ItemKept.{kept_by_itself, kept_or_refused, read_item}
use Rattle.syn_item.proofs.kept.read_are_kept.Goals as goal

pub returns-clause-kept_or_refused : goal.returns-clause-kept_or_refused
returns-clause-kept_or_refused c = kept_or_refused

pub returns-clause-by_itself : goal.returns-clause-by_itself
returns-clause-by_itself c = kept_by_itself

pub returns-clause-items : goal.returns-clause-items
returns-clause-items c = read_item
