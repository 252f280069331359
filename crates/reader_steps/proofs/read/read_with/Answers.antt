use Rattle.std.proofs.Common.{refl}
use Rattle.reader_table.specs.Kinds.{kind_of}
use Rattle.reader_steps.proofs.Public.{derived, ended, none}
use Rattle.reader_steps.proofs.read.read_with.Goals as goal

pub returns-in-Ok-clause-found : goal.returns-in-Ok-clause-found
returns-in-Ok-clause-found g c =
    derived (kind_of c.args.kind) c.args.at.now c.in-Ok.rest.now c.in-Ok.tree _ refl c.in-Ok.ensures.answer

pub returns-in-Err-Syntax-clause-none : goal.returns-in-Err-Syntax-clause-none
returns-in-Err-Syntax-clause-none g c =
    let h = rw c.in-Err-Syntax.field-0-is at c.in-Err-Syntax.ensures.answer in
    λ _. none (kind_of c.args.kind) c.args.at.now _ refl h

pub returns-in-Err-Late-clause-none : goal.returns-in-Err-Late-clause-none
returns-in-Err-Late-clause-none g c =
    let h = rw c.in-Err-Late.field-0-is at c.in-Err-Late.ensures.answer in
    λ _. absurd (ended (kind_of c.args.kind) c.args.at.now _ refl h)
