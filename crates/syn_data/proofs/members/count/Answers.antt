use Rattle.reader_table.specs.Ops.{separator_of}
use Rattle.syn_data.proofs.Listed.{counted}
use Rattle.syn_data.proofs.members.count.Goals as goal

pub returns : goal.returns
returns c =
    let l = c.args.list.now in
    counted c.len.result (separator_of l.separator) l.before.now l.last c.len.ensures
