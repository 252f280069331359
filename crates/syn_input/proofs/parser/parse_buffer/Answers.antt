use Rattle.std.proofs.Common.{refl}
use Rattle.rust_map.specs.Spans.{call_site}
use Rattle.syn_buffer.specs.Entries.{spanned_entries}
use Rattle.syn_input.proofs.Wholes.{begun, whole_left, whole_read, whole_refused}
use Rattle.syn_input.proofs.parser.parse_buffer.Goals as goal

pub returns-in-Err-clause-refused : goal.returns-in-Err-clause-refused
returns-in-Err-clause-refused g c = λ _.
    let begins = begun _ _ _ _ _ _ _ _ c.new-input.ensures.cursor c.begin.ensures.tokens refl c.args.buffer.now.is_noted
    c.begin.ensures.list c.new-input.ensures.noted in
    whole_refused _ call_site (spanned_entries c.args.buffer.now.entries.items) c.new-input.result c.call.new.self
    c.call.result c.in-Err.fault begins c.call.ensures c.in-Err.is

pub returns-in-Ok-require_all-clause-read : goal.returns-in-Ok-require_all-clause-read
returns-in-Ok-require_all-clause-read g c =
    let begins = begun _ _ _ _ _ _ _ _ c.new-input.ensures.cursor c.begin.ensures.tokens refl c.args.buffer.now.is_noted
    c.begin.ensures.list c.new-input.ensures.noted in
    whole_read _ call_site (spanned_entries c.args.buffer.now.entries.items) c.new-input.result c.call.new.self
    c.call.result c.in-Ok.value begins c.call.ensures c.in-Ok.is c.in-Ok-require_all.ensures.ok

pub returns-in-Err-require_all-clause-refused : goal.returns-in-Err-require_all-clause-refused
returns-in-Err-require_all-clause-refused g c = λ _.
    let begins = begun _ _ _ _ _ _ _ _ c.new-input.ensures.cursor c.begin.ensures.tokens refl c.args.buffer.now.is_noted
    c.begin.ensures.list c.new-input.ensures.noted in
    whole_left _ call_site (spanned_entries c.args.buffer.now.entries.items) c.new-input.result c.call.new.self
    c.call.result c.in-Ok.value begins c.call.ensures c.in-Ok.is c.in-Err-require_all.ensures.err
