use Rattle.syn_part.proofs.Absent.{missing_none}
use Rattle.syn_part.proofs.missing.nothing.Goals as goal

pub returns-in-None : goal.returns-in-None
returns-in-None c = missing_none c.args.tree.now c.in-None.ensures
