use Rattle.writer_read.proofs.Bare as Bare
use Rattle.writer_read.proofs.laws.removed.Goals as goal

pub returns : goal.returns
returns c = record {
  clause = Bare.where_said;
  generics = Bare.generics_said;
  bounds = Bare.bounds_said;
  lifetimes = Bare.lifetimes_said;
}
