use Rattle.std.proofs.Common.{sym}
use Rattle.reader_steps.proofs.around.judged.Goals as goal

pub returns-in-Keep-clause-answer : goal.returns-in-Keep-clause-answer
returns-in-Keep-clause-answer g c =
    rw (sym c.judge.ensures, c.in-Keep.is) (c.with_rest.ensures.answer _ c.first.ensures)

pub returns-in-AsRaw-clause-answer : goal.returns-in-AsRaw-clause-answer
returns-in-AsRaw-clause-answer g c =
    rw (sym c.judge.ensures, c.in-AsRaw.is) (c.with_rest-in-AsRaw.ensures.answer _ c.verbatim.ensures)
