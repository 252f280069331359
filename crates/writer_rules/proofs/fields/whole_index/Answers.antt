use Rattle.std.proofs.Common.{◌<◌, rules}
use Rattle.std.specs.Str.{chars}
use Rattle.writer_rules.proofs.Indices.{whole_left, whole_some}
use Rattle.writer_rules.proofs.fields.whole_index.Goals as goal

pub returns-in-None-first_char : goal.returns-in-None-first_char
returns-in-None-first_char c =
    let fits : c.in-Some.value < 4294967296 = search rules in
    whole_some c.in-Some.value (chars c.args.text.now) (chars c.in-Some.left.now) fits c.in-Some.ensures.reads
    c.in-None-first_char.ensures.none

pub returns-in-Some-first_char : goal.returns-in-Some-first_char
returns-in-Some-first_char c =
    whole_left c.in-Some.value c.in-Some-first_char.field-0.0 (chars c.in-Some-first_char.field-0.1.now)
    (chars c.args.text.now) (chars c.in-Some.left.now) c.in-Some.ensures.reads c.in-Some-first_char.ensures.some
