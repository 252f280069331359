use Rattle.syn_ast.proofs.Counts.{segments_counted}
use Rattle.syn_ast.proofs.laws.segments_are_counted.Goals as goal

pub returns : goal.returns
returns c = segments_counted
