use Rattle.reader_steps.proofs.run.none_chosen.Goals as goal

pub returns-clause-answer : goal.returns-clause-answer
returns-clause-answer c = c.with_rest.ensures.answer _ c.absent-tree.ensures
