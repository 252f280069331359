use Rattle.laws_lists.proofs.NamesTaken.{never_refused}
use Rattle.laws_lists.proofs.laws.printed_is_not_refused.Goals as goal

pub returns : goal.returns
returns c = never_refused
