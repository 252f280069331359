-- Each arm is those two marks.
use Rattle.std.proofs.Common.{rules}
use Rattle.reader_tokens.specs.Tokens.{tokens}
use Rattle.reader_table.specs.Kinds.{position_of}
use Rattle.rust_leaf.specs.Leaf.{punct_char, punct_spacing}
use Rattle.reader_lookahead.proofs.Backs.{left_back, no_more_back, right_back, no_less_back}
use Rattle.reader_lookahead.proofs.form.angle_back.Goals as goal

pub returns-in-60-as_char : goal.returns-in-60-as_char
returns-in-60-as_char c =
    left_back (position_of c.args.position) (punct_char c.args.mark.now) (punct_char c.args.next.now)
    (punct_spacing c.args.mark.now) (punct_spacing c.args.next.now) (tokens c.args.at.now)
    (tokens c.args.behind.now) c.requires.first c.requires.joint (search rules) (search rules) (search rules)

pub returns-in-61 : goal.returns-in-61
returns-in-61 c =
    no_more_back (position_of c.args.position) (punct_char c.args.mark.now) (punct_char c.args.next.now)
    (punct_spacing c.args.mark.now) (punct_spacing c.args.next.now) (tokens c.args.at.now)
    (tokens c.args.behind.now) c.requires.first c.requires.joint (search rules) (search rules) (search rules)

pub returns-in-62-as_char : goal.returns-in-62-as_char
returns-in-62-as_char c =
    right_back (position_of c.args.position) (punct_char c.args.mark.now) (punct_char c.args.next.now)
    (punct_spacing c.args.mark.now) (punct_spacing c.args.next.now) (tokens c.args.at.now)
    (tokens c.args.behind.now) c.requires.first c.requires.joint (search rules) (search rules) (search rules)

pub returns-in-61-as_char : goal.returns-in-61-as_char
returns-in-61-as_char c =
    no_less_back (position_of c.args.position) (punct_char c.args.mark.now) (punct_char c.args.next.now)
    (punct_spacing c.args.mark.now) (punct_spacing c.args.next.now) (tokens c.args.at.now)
    (tokens c.args.behind.now) c.requires.first c.requires.joint (search rules) (search rules) (search rules)
