-- Groups that are read by a function.
use Rattle.std.specs.Prelude.{◌≡◌, ◌⊎◌, None, false}
use Rattle.rust_map.specs.declared.span.Span.{Span}
use Rattle.proc_macro2.specs.declared.delimiter.Delimiter.{Delimiter}
use Rattle.syn_error.specs.Faults.{IsSyntax}
use Rattle.syn_error.specs.declared.fault.ParseFault.{ParseFault}
use Rattle.syn_kinds.specs.Stands.{group_stands}
use Rattle.syn_buffer.specs.Groups.{Enters}
use Rattle.syn_input.specs.Input.{first_of_two, left, leftover}
use Rattle.syn_input.specs.declared.input.ParseBuffer.{ParseBuffer}

-- the group has been entered, its inside read by the function from its beginning, and closed behind that
pub record Within (runs : ParseBuffer → ParseBuffer →
    Type 0) (d : Delimiter) (span : Span) (old new : ParseBuffer) : Type 0 where
  pub begin : ParseBuffer
  pub end : ParseBuffer
  pub enters : Enters old.cursor d span begin.cursor new.cursor
  pub fresh : begin.noted ≡ None
  pub ran : runs begin end
  pub noted : new.noted ≡ first_of_two old.noted (leftover end)

-- the group was not entered, and nothing has been read: where the fault is one of syntax no such group stands there
pub record NotEntered (d : Delimiter) (old : ParseBuffer) (fault : ParseFault) (new : ParseBuffer) : Type 0 where
  pub none : IsSyntax fault → group_stands d (left old) ≡ false
  pub same : new ≡ old

-- the group was not entered, or the function answered the fault of its inside
abbrev pub WithinRefused : (ParseBuffer → ParseBuffer → Type 0) → Delimiter → ParseBuffer → ParseFault → ParseBuffer →
    Type 0
WithinRefused runs d old fault new = NotEntered d old fault new ⊎ ((span : Span) × Within runs d span old new)
