use Rattle.writer_read.proofs.Opening.{turn_other}
use Rattle.writer_read.proofs.opened.opens_turn.Goals as goal

pub returns-in-None : goal.returns-in-None
returns-in-None c = turn_other c.args.turn.now c.in-Some.chosen.now c.in-Some.ensures c.in-None.ensures
