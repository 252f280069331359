use Rattle.std.proofs.Common.{refl}
use Rattle.syn_read.specs.Reading as reading
use Rattle.syn_read.proofs.Singles.{other_found}
use Rattle.syn_read.proofs.reader.Reader.single.Goals as goal

pub returns-in-None-clause-refused : goal.returns-in-None-clause-refused
returns-in-None-clause-refused g c = λ _.
    other_found g.T.ParseSingle.kind _ g.T.ParseSingle.is_meant (reading.left c.args.self.now) _ c.in_ok-tree.tree
    c.in_ok-tree-2.tree.now (reading.left c.parse.new.self) c.kind.ensures refl c.in_ok-tree-2.ensures
    c.in_ok-tree.ensures.read c.in-None.ensures
