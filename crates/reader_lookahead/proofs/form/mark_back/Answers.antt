-- Each arm is that mark.
use Rattle.std.proofs.Common.{rules}
use Rattle.reader_tokens.specs.Tokens.{tokens}
use Rattle.reader_table.specs.Kinds.{position_of}
use Rattle.rust_leaf.specs.Leaf.{punct_char, punct_spacing}
use Rattle.reader_lookahead.proofs.Backs.{comma_back, semi_back, question_back, assign_back, plus_back}
use Rattle.reader_lookahead.proofs.Backs.{minus_back, star_back, slash_back, less_back, more_back}
use Rattle.reader_lookahead.proofs.Backs.{percent_back, and_back, caret_back, bar_back}
use Rattle.reader_lookahead.proofs.form.mark_back.Goals as goal

pub returns-in-44 : goal.returns-in-44
returns-in-44 c =
    comma_back (position_of c.args.position) (punct_char c.args.mark.now) (punct_spacing c.args.mark.now)
    (tokens c.args.at.now) (tokens c.args.rest.now) c.requires.first (search rules)

pub returns-in-59 : goal.returns-in-59
returns-in-59 c =
    semi_back (position_of c.args.position) (punct_char c.args.mark.now) (punct_spacing c.args.mark.now)
    (tokens c.args.at.now) (tokens c.args.rest.now) c.requires.first (search rules)

pub returns-in-63 : goal.returns-in-63
returns-in-63 c =
    question_back (position_of c.args.position) (punct_char c.args.mark.now) (punct_spacing c.args.mark.now)
    (tokens c.args.at.now) (tokens c.args.rest.now) c.requires.first (search rules)

pub returns-in-61 : goal.returns-in-61
returns-in-61 c =
    assign_back (position_of c.args.position) (punct_char c.args.mark.now) (punct_spacing c.args.mark.now)
    (tokens c.args.at.now) (tokens c.args.rest.now) c.requires.first (search rules) (search rules)

pub returns-in-43 : goal.returns-in-43
returns-in-43 c =
    plus_back (position_of c.args.position) (punct_char c.args.mark.now) (punct_spacing c.args.mark.now)
    (tokens c.args.at.now) (tokens c.args.rest.now) c.requires.first (search rules) (search rules)

pub returns-in-45 : goal.returns-in-45
returns-in-45 c =
    minus_back (position_of c.args.position) (punct_char c.args.mark.now) (punct_spacing c.args.mark.now)
    (tokens c.args.at.now) (tokens c.args.rest.now) c.requires.first (search rules) (search rules)

pub returns-in-42 : goal.returns-in-42
returns-in-42 c =
    star_back (position_of c.args.position) (punct_char c.args.mark.now) (punct_spacing c.args.mark.now)
    (tokens c.args.at.now) (tokens c.args.rest.now) c.requires.first (search rules) (search rules)

pub returns-in-47 : goal.returns-in-47
returns-in-47 c =
    slash_back (position_of c.args.position) (punct_char c.args.mark.now) (punct_spacing c.args.mark.now)
    (tokens c.args.at.now) (tokens c.args.rest.now) c.requires.first (search rules) (search rules)

pub returns-in-60 : goal.returns-in-60
returns-in-60 c =
    less_back (position_of c.args.position) (punct_char c.args.mark.now) (punct_spacing c.args.mark.now)
    (tokens c.args.at.now) (tokens c.args.rest.now) c.requires.first (search rules) (search rules)

pub returns-in-62 : goal.returns-in-62
returns-in-62 c =
    more_back (position_of c.args.position) (punct_char c.args.mark.now) (punct_spacing c.args.mark.now)
    (tokens c.args.at.now) (tokens c.args.rest.now) c.requires.first (search rules) (search rules)

pub returns-in-37 : goal.returns-in-37
returns-in-37 c =
    percent_back (position_of c.args.position) (punct_char c.args.mark.now) (punct_spacing c.args.mark.now)
    (tokens c.args.at.now) (tokens c.args.rest.now) c.requires.first (search rules) (search rules)

pub returns-in-38 : goal.returns-in-38
returns-in-38 c =
    and_back (position_of c.args.position) (punct_char c.args.mark.now) (punct_spacing c.args.mark.now)
    (tokens c.args.at.now) (tokens c.args.rest.now) c.requires.first (search rules) (search rules)

pub returns-in-94 : goal.returns-in-94
returns-in-94 c =
    caret_back (position_of c.args.position) (punct_char c.args.mark.now) (punct_spacing c.args.mark.now)
    (tokens c.args.at.now) (tokens c.args.rest.now) c.requires.first (search rules) (search rules)

pub returns-in-124 : goal.returns-in-124
returns-in-124 c =
    bar_back (position_of c.args.position) (punct_char c.args.mark.now) (punct_spacing c.args.mark.now)
    (tokens c.args.at.now) (tokens c.args.rest.now) c.requires.first (search rules) (search rules)
