use Rattle.std.proofs.Common.{ap}
use Rattle.syn_grammar.specs.Run.{wrap}
use Rattle.reader_steps.specs.Around.{around_of}
use Rattle.reader_steps.proofs.Outs.{gives_as}
use Rattle.reader_steps.proofs.around.surround.Goals as goal

pub returns-clause-answer : goal.returns-clause-answer
returns-clause-answer c = λ o h.
    let h = rw c.in_ok-tree.was at h in
    gives_as (λ x. x.0) (λ x. x.1.now) _ _ _ (ap (wrap (around_of c.args.around)) h)
    (c.with_rest.ensures.answer _ c.surrounded.ensures)
