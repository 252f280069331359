use Rattle.reader_steps.proofs.finish.made_of.Goals as goal

pub returns-in-Front-clause-answer : goal.returns-in-Front-clause-answer
returns-in-Front-clause-answer g c = rw c.in-Front.is (c.with_rest.ensures.answer _ c.pair.ensures)

pub returns-in-Around-clause-answer : goal.returns-in-Around-clause-answer
returns-in-Around-clause-answer g c = rw c.in-Around.is (c.with_rest-in-Around.ensures.answer _ c.surrounded.ensures)

pub returns-in-Node-clause-answer : goal.returns-in-Node-clause-answer
returns-in-Node-clause-answer g c = rw c.in-Node.is (c.with_rest-in-Node.ensures.answer _ c.node.ensures)

pub returns-in-Inside-clause-answer : goal.returns-in-Inside-clause-answer
returns-in-Inside-clause-answer g c = rw c.in-Inside.is c.grouped.ensures.answer

pub returns-in-Judged-clause-answer : goal.returns-in-Judged-clause-answer
returns-in-Judged-clause-answer g c = rw c.in-Judged.is c.judged.ensures.answer
