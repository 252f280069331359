use Rattle.reader_steps.specs.Answers.{tokens}
use Rattle.syn_read.proofs.Singles.{other_whole}
use Rattle.syn_read.proofs.single.parse2_single.Goals as goal

pub returns-in-None-clause-refused : goal.returns-in-None-clause-refused
returns-in-None-clause-refused g c = λ _.
    other_whole g.T.ParseSingle.kind _ g.T.ParseSingle.is_meant (tokens c.args.buffer.now.entries.items)
    c.in_ok-tree.tree c.in_ok-tree-2.tree.now c.kind.ensures c.in_ok-tree-2.ensures c.in_ok-tree.ensures.read
    c.in-None.ensures
