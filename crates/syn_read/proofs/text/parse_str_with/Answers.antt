use Rattle.std.proofs.Common.{subst, sym}
use Rattle.std.specs.Prelude.{Err}
use Rattle.syn_error.specs.Faults.{IsSyntax}
use Rattle.syn_read.specs.Texts.{MayAnswer}
use Rattle.syn_read.proofs.text.parse_str_with.Goals as goal

pub returns-in-Err-Syntax-clause-refused : goal.returns-in-Err-Syntax-clause-refused
returns-in-Err-Syntax-clause-refused g c =
    let syntax : IsSyntax c.in-Err-Syntax.field-0 = subst (λ e. IsSyntax e) (sym c.in-Err-Syntax.field-0-is) tt in (
      c.in_ok-stream.stream,
      c.in_ok-stream.ensures.parsed,
      subst (λ e. MayAnswer (goal.F-post g c.args.reader) c.in_ok-stream.stream (Err e)) c.in-Err-Syntax.field-0-is
          (c.in-Err-Syntax.ensures.refused syntax),
    )
