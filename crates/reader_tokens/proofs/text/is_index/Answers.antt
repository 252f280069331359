use Rattle.std.specs.Str.{chars}
use Rattle.reader_tokens.proofs.Dots.{index_left}
use Rattle.reader_tokens.proofs.text.is_index.Goals as goal

pub returns-in-Some-first_char : goal.returns-in-Some-first_char
returns-in-Some-first_char c =
    index_left c.in-Some.field-0-0 c.in-Some-first_char.field-0.0 (chars c.in-Some-first_char.field-0.1.now)
    (chars c.args.text.now) (chars c.in-Some.left.now) c.in-Some.ensures.reads c.in-Some-first_char.ensures.some
