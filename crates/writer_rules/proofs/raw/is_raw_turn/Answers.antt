use Rattle.std.proofs.Common.{rules}
use Rattle.writer_rules.proofs.Apartness.{raw_turns}
use Rattle.writer_rules.proofs.raw.is_raw_turn.Goals as goal

pub returns-in_default : goal.returns-in_default
returns-in_default c = search (rules, raw_turns)

pub returns-in-Some-statement : goal.returns-in-Some-statement
returns-in-Some-statement c = search (rules, raw_turns)

pub returns-in-None : goal.returns-in-None
returns-in-None c = search (rules, raw_turns)
