use Rattle.reader_steps.proofs.Pendings.{makes_last}
use Rattle.reader_steps.proofs.finish.finished_by.Goals as goal

pub returns-in-Ok-clause-answer : goal.returns-in-Ok-clause-answer
returns-in-Ok-clause-answer g c =
    λ ws o h. let h = rw c.in-Ok.is at h in
    makes_last ws c.args.last (c.in-Ok.tree, c.in-Ok.rest) c.made_of.result o c.made_of.ensures.answer h

pub returns-in-Err-clause-answer : goal.returns-in-Err-clause-answer
returns-in-Err-clause-answer g c = λ ws o h. let h = rw c.in-Err.is at h in c.said_of.ensures.fails o h
