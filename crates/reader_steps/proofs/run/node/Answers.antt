use Rattle.std.proofs.Common.{◌≡◌, ◌-◌, suc, arith}
use Rattle.reader_table.specs.Kinds.{kind_of}
use Rattle.reader_table.specs.Ops.{gram_of}
use Rattle.reader_steps.specs.Answers.{tokens}
use Rattle.reader_steps.proofs.Operands.{kind_read}
use Rattle.reader_steps.proofs.run.node.Goals as goal

pub returns-clause-answer : goal.returns-clause-answer
returns-clause-answer c =
    let s : c.args.fuel ≡ suc (c.args.fuel - 1) = omega arith in
    c.to_make.ensures.answer _ (kind_read c.args.fuel (c.args.fuel - 1) (kind_of c.args.kind)
    (gram_of c.entry-steps.result.now) (tokens c.args.at.now) s c.entry-steps.ensures)
