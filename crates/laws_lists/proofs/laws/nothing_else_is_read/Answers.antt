use Rattle.laws_lists.proofs.NamesBack.{printed_once}
use Rattle.laws_lists.proofs.laws.nothing_else_is_read.Goals as goal

pub returns : goal.returns
returns c = printed_once
