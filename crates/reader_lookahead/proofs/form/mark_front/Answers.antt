-- Each arm is that mark, and none follows it at once.
use Rattle.std.proofs.Common.{rules}
use Rattle.reader_tokens.specs.Tokens.{tokens}
use Rattle.reader_table.specs.Kinds.{position_of}
use Rattle.rust_leaf.specs.Leaf.{punct_char, punct_spacing}
use Rattle.reader_lookahead.proofs.Fronts.{pound_front, star_front, not_front, minus_front, less_front}
use Rattle.reader_lookahead.proofs.form.mark_front.Goals as goal

pub returns-in-35 : goal.returns-in-35
returns-in-35 c =
    pound_front (position_of c.args.position) (punct_char c.args.mark.now) (punct_spacing c.args.mark.now)
    (tokens c.args.at.now) (tokens c.args.rest.now) c.requires.first (search rules) (search rules)

pub returns-in-42 : goal.returns-in-42
returns-in-42 c =
    star_front (position_of c.args.position) (punct_char c.args.mark.now) (punct_spacing c.args.mark.now)
    (tokens c.args.at.now) (tokens c.args.rest.now) c.requires.first (search rules) (search rules)

pub returns-in-33 : goal.returns-in-33
returns-in-33 c =
    not_front (position_of c.args.position) (punct_char c.args.mark.now) (punct_spacing c.args.mark.now)
    (tokens c.args.at.now) (tokens c.args.rest.now) c.requires.first (search rules) (search rules)

pub returns-in-45 : goal.returns-in-45
returns-in-45 c =
    minus_front (position_of c.args.position) (punct_char c.args.mark.now) (punct_spacing c.args.mark.now)
    (tokens c.args.at.now) (tokens c.args.rest.now) c.requires.first (search rules) (search rules)

pub returns-in-60 : goal.returns-in-60
returns-in-60 c =
    less_front (position_of c.args.position) (punct_char c.args.mark.now) (punct_spacing c.args.mark.now)
    (tokens c.args.at.now) (tokens c.args.rest.now) c.requires.first (search rules) (search rules)
