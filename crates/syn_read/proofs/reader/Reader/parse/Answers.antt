use Rattle.reader_table.specs.Kinds.{kind_of}
use Rattle.syn_read.proofs.Onward.{form_left, form_read}
use Rattle.syn_read.proofs.reader.Reader.parse.Goals as goal

pub before_last-requires-clause-within : goal.before_last-requires-clause-within
before_last-requires-clause-within c =
    (form_left (kind_of c.args.kind) c.in-Ok.tree c.args.self.now.entries.now c.in-Ok.rest.now c.in-Ok.ensures.found
    c.args.self.now.is_whole c.in-Ok.ensures.whole).within

pub before_last-requires-clause-whole : goal.before_last-requires-clause-whole
before_last-requires-clause-whole c =
    (form_left (kind_of c.args.kind) c.in-Ok.tree c.args.self.now.entries.now c.in-Ok.rest.now c.in-Ok.ensures.found
    c.args.self.now.is_whole c.in-Ok.ensures.whole).whole

pub returns-in-Ok-clause-read : goal.returns-in-Ok-clause-read
returns-in-Ok-clause-read c =
    let left = form_left (kind_of c.args.kind) c.in-Ok.tree c.args.self.now.entries.now c.in-Ok.rest.now
    c.in-Ok.ensures.found c.args.self.now.is_whole c.in-Ok.ensures.whole in
    form_read (kind_of c.args.kind) c.in-Ok.tree c.args.self.now.entries.now c.in-Ok.rest.now _ c.in-Ok.ensures.found
    left c.before_last.ensures.entries
