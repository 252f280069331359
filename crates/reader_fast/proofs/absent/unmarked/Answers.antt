-- Its mark doesn't stand there.
use Rattle.reader_tokens.specs.Tokens.{tokens}
use Rattle.reader_fast.specs.Absent.{nothing}
use Rattle.reader_table.specs.Kinds.{kind_of}
use Rattle.reader_fast.proofs.absent.unmarked.Goals as goal

pub returns-then-lacks-clause-read : goal.returns-then-lacks-clause-read
returns-then-lacks-clause-read c =
    let k = kind_of c.args.kind in
    let ts = tokens c.args.at.now in
    c.found.ensures.read 1 k ts (nothing k) (c.in-Some.ensures ts (c.lacks.ensures c.if-lacks.true)) c.nothing.ensures
