use Rattle.std.proofs.Common.{ap, sym}
use Rattle.syn_grammar.specs.Run.{Got}
use Rattle.reader_steps.specs.Answers.{tokens}
use Rattle.reader_steps.proofs.around.with_rest.Goals as goal

pub returns-clause-answer : goal.returns-clause-answer
returns-clause-answer c = λ x made.
    let made = rw c.in_ok-made.was at made in
    ap (λ y. Got y (tokens c.args.rest.now)) (sym made)
