-- Where a refusal stands.
use Rattle.std.specs.Prelude.{true, false, List, [], ◌∷◌, Some, None, unwrap_or}
use Rattle.rust_map.specs.Spans.{last_of}
use Rattle.rust_map.specs.declared.span.Span.{Span}
use Rattle.syn_buffer.specs.Entries.{entry_span}
use Rattle.syn_buffer.specs.declared.entry.Entry.{Entry}
use Rattle.reader_steps.specs.declared.refusal.Refusal.{Refusal}
use Rattle.reader_steps.specs.declared.refusal.Refusal.TheVariants.{Syntax}
use Rattle.reader_steps.specs.declared.refusal.Wanted.{Wanted}

-- what is wanted in place of a token
abbrev pub refused_span : Wanted → Span → Refusal
refused_span w s = Syntax (record { span = Some s; is_end = false; wanted = w })

-- what is wanted in place of the first token that is left, or at the end, where none is left
abbrev pub refused_at : Wanted → List Entry → Refusal
refused_at w [] = Syntax (record { span = None; is_end = true; wanted = w })
refused_at w (e ∷ es) = Syntax (record { span = Some (entry_span e); is_end = false; wanted = w })

-- the same, where the tokens are those inside a group of that span: their end is where the group closes
abbrev pub closed_by : Span → Refusal → Refusal
closed_by s (Syntax w) = Syntax (record w { span = Some (unwrap_or w.span (last_of s)) })
closed_by s e = e
