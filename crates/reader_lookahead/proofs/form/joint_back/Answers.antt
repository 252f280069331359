-- Each arm is those two marks.
use Rattle.std.proofs.Common.{rules}
use Rattle.reader_tokens.specs.Tokens.{tokens}
use Rattle.reader_table.specs.Kinds.{position_of}
use Rattle.rust_leaf.specs.Leaf.{punct_char, punct_spacing}
use Rattle.reader_lookahead.proofs.Backs.{equal_back, arrow_back, unequal_back, both_back, either_back}
use Rattle.reader_lookahead.proofs.form.joint_back.Goals as goal

pub returns-in-61-as_char : goal.returns-in-61-as_char
returns-in-61-as_char c =
    equal_back (position_of c.args.position) (punct_char c.args.mark.now) (punct_char c.in-Some.next.now)
    (punct_spacing c.args.mark.now) (punct_spacing c.in-Some.next.now) (tokens c.args.at.now)
    (tokens c.args.rest.now) (tokens c.in-Some.behind.now) c.requires.first c.requires.joint
    (search rules) (search rules) (search rules)

pub returns-in-62 : goal.returns-in-62
returns-in-62 c =
    arrow_back (position_of c.args.position) (punct_char c.args.mark.now) (punct_char c.in-Some.next.now)
    (punct_spacing c.args.mark.now) (punct_spacing c.in-Some.next.now) (tokens c.args.at.now)
    (tokens c.args.rest.now) (tokens c.in-Some.behind.now) c.requires.first c.requires.joint
    (search rules) (search rules) (search rules)

pub returns-in-61-as_char-2 : goal.returns-in-61-as_char-2
returns-in-61-as_char-2 c =
    unequal_back (position_of c.args.position) (punct_char c.args.mark.now) (punct_char c.in-Some.next.now)
    (punct_spacing c.args.mark.now) (punct_spacing c.in-Some.next.now) (tokens c.args.at.now)
    (tokens c.args.rest.now) (tokens c.in-Some.behind.now) c.requires.first c.requires.joint
    (search rules) (search rules) (search rules)

pub returns-in-38-as_char : goal.returns-in-38-as_char
returns-in-38-as_char c =
    both_back (position_of c.args.position) (punct_char c.args.mark.now) (punct_char c.in-Some.next.now)
    (punct_spacing c.args.mark.now) (punct_spacing c.in-Some.next.now) (tokens c.args.at.now)
    (tokens c.args.rest.now) (tokens c.in-Some.behind.now) c.requires.first c.requires.joint
    (search rules) (search rules) (search rules)

pub returns-in-124-as_char : goal.returns-in-124-as_char
returns-in-124-as_char c =
    either_back (position_of c.args.position) (punct_char c.args.mark.now) (punct_char c.in-Some.next.now)
    (punct_spacing c.args.mark.now) (punct_spacing c.in-Some.next.now) (tokens c.args.at.now)
    (tokens c.args.rest.now) (tokens c.in-Some.behind.now) c.requires.first c.requires.joint
    (search rules) (search rules) (search rules)
