use Rattle.rust_map.proofs.SpotLemmas.{part_lies}
use Rattle.rust_map.proofs.span.Span.part.Goals as goal

pub returns-clause-lies : goal.returns-clause-lies
returns-clause-lies c = part_lies c.args.self.now c.args.from c.args.to c.requires.ordered c.requires.within
