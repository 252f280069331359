use Rattle.reader_table.specs.Words.{sign_text}
use Rattle.syn_read.specs.Reading.{left}
use Rattle.syn_read.proofs.Firsts.{sign_read, sign_refused}
use Rattle.syn_read.proofs.Onward.{sign_left, sign_stands}
use Rattle.syn_read.proofs.reader.Reader.sign.Goals as goal

pub before_last-requires-clause-within : goal.before_last-requires-clause-within
before_last-requires-clause-within c =
    (sign_left (sign_text c.args.sign) c.in-Some.spacing c.args.self.now.entries.now c.in-Some.rest.now
    (sign_read (sign_text c.args.sign) c.in-Some.spacing (left c.args.self.now) _ c.in-Some.ensures.mark)
    c.args.self.now.is_whole c.in-Some.ensures.whole).within

pub before_last-requires-clause-whole : goal.before_last-requires-clause-whole
before_last-requires-clause-whole c =
    (sign_left (sign_text c.args.sign) c.in-Some.spacing c.args.self.now.entries.now c.in-Some.rest.now
    (sign_read (sign_text c.args.sign) c.in-Some.spacing (left c.args.self.now) _ c.in-Some.ensures.mark)
    c.args.self.now.is_whole c.in-Some.ensures.whole).whole

pub returns-in-Some-clause-read : goal.returns-in-Some-clause-read
returns-in-Some-clause-read c =
    let stands = sign_read (sign_text c.args.sign) c.in-Some.spacing (left c.args.self.now) _ c.in-Some.ensures.mark in
    sign_stands (sign_text c.args.sign) c.in-Some.spacing c.args.self.now.entries.now c.in-Some.rest.now _ stands
    (sign_left (sign_text c.args.sign) c.in-Some.spacing c.args.self.now.entries.now c.in-Some.rest.now stands
    c.args.self.now.is_whole c.in-Some.ensures.whole) c.before_last.ensures.entries

pub returns-in-None-clause-refused : goal.returns-in-None-clause-refused
returns-in-None-clause-refused c =
    λ _. sign_refused (sign_text c.args.sign) (left c.args.self.now) c.in-None.ensures.mark
