-- A group that opens.
use Rattle.std.proofs.Common.{rules}
use Rattle.reader_table.specs.Kinds.{position_of}
use Rattle.reader_fast.proofs.LoneForms.{over_before}
use Rattle.reader_fast.proofs.lone.is_over.Goals as goal

pub returns-in-Open : goal.returns-in-Open
returns-in-Open c =
    over_before (position_of c.args.position) c.in-Open.delimiter c.in-Open.field-1 c.in-Open.field-2
    c.in-Some.first.now
    c.args.at.now c.in-Some.field-0-1.now c.is_over_before.result (search rules) (search rules) c.is_over_before.ensures
