use Rattle.writer_read.proofs.Stand as Stand
use Rattle.writer_read.proofs.laws.formed_trees.Goals as goal

pub returns : goal.returns
returns c = record {
  elements = Stand.again_said;
  expression = Stand.whole_said;
  alias = Stand.alias_said;
  block = Stand.impl_said;
}
