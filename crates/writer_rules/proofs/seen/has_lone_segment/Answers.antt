use Rattle.std.proofs.Common.{rules}
use Rattle.writer_rules.proofs.SeenForms.{lone_parted}
use Rattle.writer_rules.proofs.seen.has_lone_segment.Goals as goal

pub returns-then-is_second : goal.returns-then-is_second
returns-then-is_second c = search (rules, lone_parted)

pub returns-else-is_second : goal.returns-else-is_second
returns-else-is_second c = search (rules, lone_parted)

pub returns-in-None : goal.returns-in-None
returns-in-None c = search (rules, lone_parted)
