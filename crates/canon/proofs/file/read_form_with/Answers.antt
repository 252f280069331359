use Rattle.std.proofs.Common.{subst, sym}
use Rattle.reader_steps.specs.Answers.{IsSyntax}
use Rattle.canon.proofs.file.read_form_with.Goals as goal

pub returns-in-Err-Syntax-clause-refused : goal.returns-in-Err-Syntax-clause-refused
returns-in-Err-Syntax-clause-refused c =
    c.in-Err-Syntax.ensures.none (subst IsSyntax (sym c.in-Err-Syntax.field-0-is) tt)
