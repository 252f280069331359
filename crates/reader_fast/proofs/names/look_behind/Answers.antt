-- A group that opens.
use Rattle.std.proofs.Common.{rules}
use Rattle.reader_table.specs.Kinds.{style_of}
use Rattle.reader_fast.proofs.Ends.{opened}
use Rattle.reader_fast.proofs.names.look_behind.Goals as goal

pub returns-in-Open-clause-behind : goal.returns-in-Open-clause-behind
returns-in-Open-clause-behind c =
    opened (style_of c.args.style) c.in-Open.delimiter c.in-Open.field-1 c.in-Open.field-2 c.in-Some.first.now
    c.args.at.now c.in-Some.rest.now c.group_behind.result (search rules) (search rules) c.group_behind.ensures.behind
