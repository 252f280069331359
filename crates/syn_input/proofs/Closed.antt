-- Groups that are read by a function and closed.
use Rattle.std.proofs.Common.{◌≡◌, None, sym, ap, ◌∙◌, subst}
use Rattle.rust_map.specs.declared.span.Span.{Span}
use Rattle.proc_macro2.specs.declared.delimiter.Delimiter.{Delimiter}
use Rattle.syn_buffer.specs.Groups.{Enters}
use Rattle.syn_input.specs.Input.{first_of_two, leftover}
use Rattle.syn_input.specs.Within.{Within}
use Rattle.syn_buffer.specs.declared.position.Cursor.{Cursor}
use Rattle.syn_input.specs.declared.input.ParseBuffer.{ParseBuffer}

pub within_closed : (runs : ParseBuffer → ParseBuffer →
    Type 0) (d : Delimiter) (span : Span) (old mid new begin end : ParseBuffer) →
    Enters old.cursor d span begin.cursor mid.cursor → begin.noted ≡ None → runs begin end → mid.noted ≡ old.noted →
    new.cursor ≡ mid.cursor → new.noted ≡ first_of_two mid.noted (leftover end) → Within runs d span old new
within_closed runs d span old mid new begin end enters fresh ran kept stays noted =
    let P : Cursor → Type 0 = λ c. Enters old.cursor d span begin.cursor c in
    record {
      begin = begin;
      end = end;
      enters = subst P (sym stays) enters;
      fresh = fresh;
      ran = ran;
      noted = noted ∙ ap (λ o. first_of_two o (leftover end)) kept;
    }
