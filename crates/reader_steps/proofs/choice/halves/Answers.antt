use Rattle.reader_steps.proofs.Choices.{two_parts}
use Rattle.reader_steps.proofs.choice.halves.Goals as goal

pub returns-clause-says : goal.returns-clause-says
returns-clause-says c =
    let s = c.in_ok-front.ensures.cases in
    two_parts c.args.count c.args.parts.now _ _ s.0 s.1 s.2
