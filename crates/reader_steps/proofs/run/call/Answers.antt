use Rattle.std.proofs.Common.{◌≡◌, ◌-◌, suc, ap, ◌∙◌, arith}
use Rattle.syn_grammar.specs.Run.{Got, interp, run, wrap}
use Rattle.syn_grammar.specs.Tree.{Node}
use Rattle.reader_table.specs.Kinds.{kind_of}
use Rattle.reader_table.specs.Ops.{gram_of}
use Rattle.reader_steps.specs.Answers.{tokens}
use Rattle.reader_steps.proofs.Operands.{kind_read}
use Rattle.reader_steps.proofs.Outs.{fails_as, fails_on, gives_as}
use Rattle.reader_steps.proofs.run.call.Goals as goal

pub returns-in-Ok-clause-answer : goal.returns-in-Ok-clause-answer
returns-in-Ok-clause-answer g c =
    let s : c.args.fuel ≡ suc (c.args.fuel - 1) = omega arith in
    gives_as (λ x. x.0) (λ x. x.1.now) _ _ _
    (kind_read c.args.fuel (c.args.fuel - 1) (kind_of c.args.kind) (gram_of c.entry.result.now)
    (tokens c.args.at.now) s c.entry.ensures
    ∙ ap (wrap (Node (kind_of c.args.kind))) c.in-Ok.ensures.answer)
    (c.with_rest.ensures.answer _ c.node.ensures)

pub returns-in-Err-clause-answer : goal.returns-in-Err-clause-answer
returns-in-Err-clause-answer g c =
    let s : c.args.fuel ≡ suc (c.args.fuel - 1) = omega arith in
    let ts = tokens c.args.at.now in
    let o = interp (run (c.args.fuel - 1)) (gram_of c.entry.result.now) ts in
    c.named.ensures _ (fails_as c.in-Err.refusal _ _
    (kind_read c.args.fuel (c.args.fuel - 1) (kind_of c.args.kind) (gram_of c.entry.result.now) ts s c.entry.ensures)
    (fails_on c.in-Err.refusal o (λ x us. Got (Node (kind_of c.args.kind) x) us) c.in-Err.ensures.answer))
