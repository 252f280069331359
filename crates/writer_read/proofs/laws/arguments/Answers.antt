use Rattle.writer_read.proofs.Lifetimes as Lifetimes
use Rattle.writer_read.proofs.Row as Row
use Rattle.writer_read.proofs.laws.arguments.Goals as goal

pub returns : goal.returns
returns c = record {
  angles = Row.arguments_said;
  turbofish = Row.turbofish_said;
  lifetime = Lifetimes.lifetime_seen;
  other = Lifetimes.none_seen;
}
