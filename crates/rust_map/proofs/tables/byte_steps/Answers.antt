use Rattle.std.proofs.Common.{arith, ◌∙◌, sym}
use Rattle.std.specs.Str.{chars}
use Rattle.rust_map.proofs.ByteLemmas.{byte_length-chars, table_none, table_some}
use Rattle.rust_map.proofs.tables.byte_steps.Goals as goal

pub returns-then-text-count : goal.returns-then-text-count
returns-then-text-count c =
    let bytes = byte_length-chars c.args.text.now c.utf8.text in
    c.new.ensures.items ∙ sym (table_none (chars c.args.text.now) (omega arith))

pub returns : goal.returns
returns c =
    let bytes = byte_length-chars c.args.text.now c.utf8.text in
    rw (table_some (chars c.args.text.now) (λ e. c.if-text-count.false (omega arith))) c.every_step.ensures
